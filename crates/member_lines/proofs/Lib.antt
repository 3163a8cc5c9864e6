pub mod Ending
pub mod Noting
pub mod Passing
pub mod Ruling
pub mod Telling
pub mod MayAsk
pub mod Opening
