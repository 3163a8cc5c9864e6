pub mod JournalLines
pub mod Findings
pub mod Reports
pub mod Laws
