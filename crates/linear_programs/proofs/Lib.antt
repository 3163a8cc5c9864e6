pub mod ReadSteps
pub mod SolveSteps
pub mod Choosing
