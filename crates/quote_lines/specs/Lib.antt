pub mod Refusals
pub mod Replies
pub mod Output
pub mod Laws
