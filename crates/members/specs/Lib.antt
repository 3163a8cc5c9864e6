pub mod Laws
pub mod Members
pub mod Refusals
pub mod Rule
pub mod Worked
