pub mod GateLines
pub mod Accepted
pub mod Findings
pub mod Laws
