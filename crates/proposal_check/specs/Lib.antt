pub mod Covers
pub mod Proposals
pub mod Conditions
pub mod ProposalLaws
pub mod Worked
