pub mod Carries
pub mod Wholes
