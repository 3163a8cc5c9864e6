pub mod AsRun
pub mod ToldMargins
pub mod MarginReplies
pub mod DemandSums
pub mod Rising
pub mod Settled
pub mod Covered
