pub mod Outcome
pub mod Premiums
pub mod Rooms
pub mod Laws
pub mod RunSteps
