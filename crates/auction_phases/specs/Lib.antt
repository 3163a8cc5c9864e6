pub mod Laws
pub mod Phases
pub mod Refusals
pub mod Worked
