-- Before the first message nothing is counted of any session.
use Rattle.std.proofs.Common.{ℕ, arith}
use Rattle.session_lines.specs.Sessions.{new_sessions}
use Rattle.session_lines.specs.Standing.{StandsBefore}
use Rattle.member_lines.specs.Ready.{AreReady}
use Rattle.served_members.specs.Members.{empty_members}

pub stands_first : StandsBefore AreReady 1 (new_sessions empty_members)
stands_first = (omega arith, λ (session : ℕ). record { opened = omega arith; placed = omega arith })
