pub mod Laws
pub mod Money
pub mod Refusals
pub mod Secured
pub mod Worked
