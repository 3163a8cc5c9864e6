pub mod Clearing
pub mod Balance
pub mod Legs
pub mod Measure
pub mod Tree
pub mod Line
pub mod Written
pub mod Certificate
