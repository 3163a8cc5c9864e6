pub mod Gains
pub mod HeldIn
pub mod Quotients
pub mod Settlements
pub mod Worth
