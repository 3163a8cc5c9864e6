pub mod SecuredState
pub mod Replies
pub mod Output
pub mod Laws
pub mod Promises
pub mod Asked
pub mod ClosedBest
pub mod Needs
pub use Rattle.serve_lines.specs.Laws as ServeLaws
pub use Rattle.serve_lines.specs.Output as ServeOutput
pub use Rattle.serve_lines.specs.Phased
pub use Rattle.serve_lines.specs.ServingState
