pub mod ServingState
pub mod Phased
pub mod Output
pub mod Promises
pub mod Laws
