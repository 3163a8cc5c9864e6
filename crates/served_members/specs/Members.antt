-- What is written for what sessions say to an exchange that answers all lines of `serve`.
use Rattle.std.specs.Prelude.{List, ℕ, false}
use Rattle.live_lines.specs.Output.{output_of}
use Rattle.proposal_lines.specs.Laws.{IsSound}
use Rattle.secured_lines.specs.Asked.{said_asks}
use Rattle.secured_lines.specs.Output.{secured_said}
use Rattle.secured_lines.specs.SecuredState.{SecuredState, empty_secured, exchange_in, with_opened}
use Rattle.session_lines.specs.Questions.{BodyQuestion}
use Rattle.session_lines.specs.Sessions.{BodyStep, new_sessions, session_step}
use Rattle.member_lines.specs.Asked.{member_asks}
use Rattle.member_lines.specs.Lines.{MemberState, free_line, member_line, new_lines}

-- a state that may stand
abbrev pub IsSoundServed : SecuredState → Type 0
IsSoundServed state = IsSound state.serving.proposing

-- the exchange with its secured accounts, and the members
abbrev pub ServedMembers : Type 0
ServedMembers = MemberState SecuredState

abbrev pub empty_members : ServedMembers
empty_members = new_lines empty_secured

-- what is written for a body that a session says, by the rule
abbrev pub member_body : BodyStep ServedMembers
member_body = member_line exchange_in secured_said with_opened

-- and for what one asks
abbrev pub member_question : BodyQuestion ServedMembers
member_question = member_asks said_asks

-- and where there is no rule, but what members open is secured
abbrev pub free_body : BodyStep SecuredState
free_body = free_line exchange_in secured_said with_opened

-- what is written for messages, of which no bytes are skipped
abbrev pub members_output : List ℕ → List ℕ
members_output input = output_of (session_step member_body) false (new_sessions empty_members) input
