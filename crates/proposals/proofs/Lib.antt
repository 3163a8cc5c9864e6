mod Payoffs
mod NothingOwed
mod Bounded
pub mod NothingProposed
pub mod Offers
