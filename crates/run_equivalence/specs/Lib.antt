pub mod IntegerRows
pub mod WholePivoting
pub mod WholeRunning
pub mod WholeLaws
pub mod WorkedWhole
