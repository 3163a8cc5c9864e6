-- The modules of definitions.
pub mod Requests
pub mod Positional
pub mod Worked
