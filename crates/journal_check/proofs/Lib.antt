pub mod FirstLine
pub mod Found
mod Counting
pub mod LineSays
pub mod ReportsSay
pub mod Journals
