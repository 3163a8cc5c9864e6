mod ServedLines
pub mod AuditSays
pub mod GateTaken
pub mod Accepting
