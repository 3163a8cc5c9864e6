-- The modules of definitions.
pub mod Draws
pub mod Orders
pub mod Text
pub mod Worked
pub mod Tally
pub mod Demo
