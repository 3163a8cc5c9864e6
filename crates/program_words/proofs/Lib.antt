pub mod Matching
pub mod Forms
pub mod Naturals
pub mod RequestsWithin
