pub mod Passes
pub mod Rooms
