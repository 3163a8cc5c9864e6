pub mod Premium
pub mod Payout
pub mod Positions
pub mod Worked
