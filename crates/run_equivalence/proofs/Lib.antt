pub mod WorkedWhole
pub mod Multiples
pub mod StepsFit
pub mod IntegerRowSteps
pub mod IntegerPivots
pub mod PivotSteps
pub mod RunSteps
pub mod SomeLimit
