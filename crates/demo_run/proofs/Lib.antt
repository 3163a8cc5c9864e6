pub mod Steps
pub mod Lines
pub mod Sizes
pub mod Counting
pub mod Progress
pub mod Summed
