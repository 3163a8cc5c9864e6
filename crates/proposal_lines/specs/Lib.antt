pub mod AllKindsLaws
pub mod AllKinds
pub mod KeptByMarket
pub mod ProposingState
pub mod Reads
pub mod Proposed
pub mod Clears
pub mod Trials
pub mod Output
pub mod Proved
pub mod Laws
pub mod Answers
pub mod UsesBest
pub mod Promises
pub mod LaterClears
pub mod LettingGo
pub mod Reading
pub mod Asked
pub use Rattle.guarded_lines.specs.Replies as GuardedReplies
pub use Rattle.guarded_lines.specs.Withdrawals
pub use Rattle.quote_lines.specs.Laws as QuoteLaws
