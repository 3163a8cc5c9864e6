pub mod Live
pub mod Modes
pub mod Journals
pub mod Keeps
pub mod Requests
pub mod Status
pub mod Wrote
