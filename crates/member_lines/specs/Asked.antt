-- What sessions ask between lines, and what they are told.
use Rattle.std.specs.Prelude.{ℕ, ◌≡◌, Bool, false, not, ◌&&◌, List, Some, Result, Ok, Err, if◌then◌else◌}
use Rattle.asked_lines.specs.Requests.{may_be_asked}
use Rattle.command_text.specs.declared.asked.Fault.{Fault}
use Rattle.command_text.specs.declared.requests.Request.{Request}
use Rattle.command_text.specs.declared.words.TheConstants.{SERVED}
use Rattle.command_text.specs.Said.{said_in}
use Rattle.members.specs.Members.{MembersState, may_ask, owns}
use Rattle.members.specs.Rule.{is_operator}
use Rattle.members.specs.declared.refusal.MemberRefusal.TheVariants.{NotAllowed}
use Rattle.session_lines.specs.Questions.{BodyQuestion}
use Rattle.member_lines.specs.Laws.{SaidBody, tells_of}
use Rattle.member_lines.specs.Lines.{MemberState}
use Rattle.member_lines.specs.Refused.{refused_text}

-- what is written for what a line asks that says this, and nothing changes
abbrev pub SaidAsks : Type 0 → Type 0
SaidAsks S = ℕ → S → List ℕ → Result Request Fault → List ℕ

-- a line that may be asked, but not by this session
abbrev pub is_kept_from : MembersState → ℕ → Request → Bool
is_kept_from members session request = may_be_asked request && not (may_ask members.owners session request)

abbrev pub asked_said : {S : Type 0} → SaidAsks S → ℕ → ℕ → MemberState S → List ℕ → Result Request Fault → List ℕ
asked_said asks session number state body (Ok request) =
    if is_kept_from state.members session request then refused_text number NotAllowed else asks number state.served body (Ok request)
asked_said asks session number state body (Err fault) = asks number state.served body (Err fault)

abbrev pub member_asks : {S : Type 0} → SaidAsks S → BodyQuestion (MemberState S)
member_asks asks session number state body = asked_said asks session number state body (said_in SERVED body)

-- of an account whose owner it is not, a session that is not the operator's is told nothing
abbrev pub OthersMayNotAsk : {S : Type 0} → SaidAsks S → Type 0
OthersMayNotAsk {S} asks =
    (number : ℕ) (state : MemberState S) (asked : SaidBody) (request : Request) (account : ℕ)
    → owns state.members.owners asked.session account ≡ false → is_operator asked.session ≡ false → tells_of request ≡ Some account → said_in SERVED asked.body ≡ Ok request
    → member_asks asks asked.session number state asked.body ≡ refused_text number NotAllowed
