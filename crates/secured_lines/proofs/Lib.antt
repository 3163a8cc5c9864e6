mod AskedAlike
pub mod ClosedBest
pub mod Ends
pub mod LineKinds
pub mod Lowering
mod LoweringServed
pub mod Money
pub mod Moves
pub mod Needs
pub mod Outputs
mod Prices
pub mod Secured
pub mod StandingStill
pub mod StayingSafe
pub mod Telling
mod Without
