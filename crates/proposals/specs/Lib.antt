pub mod Judged
pub mod Best
pub mod Laws
