pub mod FillSteps
pub mod RunSteps
pub mod SpaceSteps
pub mod WholeSteps
