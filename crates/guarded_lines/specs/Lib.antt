pub mod Margins
pub mod Needs
pub mod Withdrawals
pub mod Replies
pub mod Output
pub mod Settlements
pub mod Laws
