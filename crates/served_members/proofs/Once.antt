-- Each message takes effect once.
use Rattle.member_lines.specs.Laws.{EndsSaid}
use Rattle.member_lines.proofs.Ending.{bodies_tell_once}
use Rattle.secured_lines.specs.Output.{secured_said}
use Rattle.secured_lines.specs.SecuredState.{exchange_in, with_opened}
use Rattle.secured_lines.proofs.Ends.{ends_lines}
use Rattle.served_members.specs.Laws.{MembersTellOnce}
use Rattle.served_members.specs.Members.{empty_members}

ends_said : EndsSaid exchange_in secured_said with_opened
ends_said number state line = ends_lines number state line

pub members_tell_once : MembersTellOnce
members_tell_once input = bodies_tell_once exchange_in secured_said with_opened ends_said empty_members input
