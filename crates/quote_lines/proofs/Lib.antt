pub mod AsRun
pub mod MayQuote
pub mod Thresholds
