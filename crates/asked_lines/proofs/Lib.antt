pub mod Asking
pub mod Bytes
pub mod Apart
