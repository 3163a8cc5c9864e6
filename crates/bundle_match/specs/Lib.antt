pub mod Auction
pub mod Laws
pub mod Match
pub mod Queue
pub mod Trades
pub mod Worked
