pub mod Read
pub mod Legs
pub mod Left
pub mod Walk
pub mod Verdict
pub mod Laws
pub mod Worked
