pub mod ClosedLists
pub mod Ends
pub mod StandingStill
