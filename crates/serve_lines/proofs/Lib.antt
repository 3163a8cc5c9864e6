pub mod LineKinds
pub mod Batches
pub mod StandingStill
pub mod Telling
pub mod Without
