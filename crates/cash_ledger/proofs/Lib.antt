pub mod Balances
pub mod BehindHouse
pub mod KeptTotals
pub mod Reserves
