pub mod Markets
pub mod Numbers
pub mod Book
pub mod Refusals
pub mod Within
pub mod Kept
