pub mod Runs
pub mod Aims
pub mod Refused
pub mod Lines
pub mod Ready
pub mod Laws
pub mod Asked
