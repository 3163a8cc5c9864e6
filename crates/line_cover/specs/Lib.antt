pub mod Net
pub mod Line
pub mod Breakpoints
pub mod Prices
pub mod Verdict
pub mod Laws
pub mod Worked
