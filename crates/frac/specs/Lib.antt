pub mod Narrow
pub mod Range
pub mod Value
pub mod ValueOf
