pub mod Stops
pub mod Ends
pub mod Spaces
pub mod WholeEnds
pub mod Attempts
