pub mod Asked
pub mod Laws
pub mod Apart
pub mod Standing
pub mod Worked
pub mod Requests
