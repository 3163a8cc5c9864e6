pub mod Answered
pub mod Shapes
pub mod Covered
pub mod Proposals
pub mod WorkedProposals
