pub mod Asking
pub mod Members
pub mod Promises
pub mod Laws
pub mod Lines
pub mod Ruled
pub use Rattle.member_lines.specs.Asked as MembersAsked
pub use Rattle.member_lines.specs.Laws as MemberLaws
pub use Rattle.member_lines.specs.Ready as MembersReady
pub use Rattle.secured_lines.specs.Asked as SecuredAsked
pub use Rattle.secured_lines.specs.Output as SecuredOutput
pub use Rattle.secured_lines.specs.SecuredState
