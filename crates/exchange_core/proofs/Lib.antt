pub mod Batches
pub mod Covered
pub mod FirstRefusal
pub mod Joined
pub mod PositionsKept
pub mod NewPositions
pub mod Settled
pub mod Keeping
pub mod LiveAccounts
pub mod ReserveSums
mod HeldOrders
pub mod HeldPositions
pub mod SettledBalances
