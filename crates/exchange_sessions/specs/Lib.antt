pub mod AllLines
pub mod Answers
pub mod Laws
pub mod Members
pub mod Messages
pub mod Served
