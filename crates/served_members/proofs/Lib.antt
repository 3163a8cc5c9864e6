pub mod Bodies
pub mod Freed
pub mod LinesKept
pub mod Lowering
pub mod Once
pub mod Owners
pub mod Paying
pub mod Questions
pub mod Ruled
pub mod Runs
pub mod Secured
pub mod Serving
pub mod Standing
pub mod StandingStill
pub mod Unopened
pub use Rattle.member_lines.proofs.MayAsk
pub use Rattle.proposal_lines.proofs.Outputs as ProposalOutputs
pub use Rattle.proposal_lines.proofs.Telling as ProposalTelling
pub use Rattle.secured_lines.proofs.Ends as SecuredEnds
