-- What is written for a line that a session says.
use Rattle.std.specs.Prelude.{ℕ, List, Option, Result, Ok, Err, if◌then◌else◌}
use Rattle.std.specs.Option.{option_map_or}
use Rattle.command_text.specs.declared.asked.Fault.{Fault}
use Rattle.command_text.specs.declared.requests.Request.{Request}
use Rattle.command_text.specs.declared.words.TheConstants.{SERVED}
use Rattle.command_text.specs.Said.{said_in}
use Rattle.exchange_core.specs.ExchangeState.{ExchangeState}
use Rattle.lists.specs.Refusals.{first_of}
use Rattle.members.specs.Members.{MembersState, after_reply, no_members}
use Rattle.members.specs.Refusals.{rule_refusals}
use Rattle.members.specs.Rule.{is_operator}
use Rattle.session_lines.specs.Sessions.{BodyStep}
use Rattle.member_lines.specs.declared.aims.Aim.{Aim}
use Rattle.member_lines.specs.Aims.{aim_of, aim_of_said, done_by, opened_by}
use Rattle.member_lines.specs.Refused.{refused_text}
use Rattle.member_lines.specs.Runs.{Opens, SaidStep}

-- the state of what answers lines, and the members
pub record MemberState (S : Type 0) : Type 0 where
  pub served : S
  pub members : MembersState

abbrev pub member_state : {S : Type 0} → S → MembersState → MemberState S
member_state served members = record { served = served; members = members }

abbrev pub new_lines : {S : Type 0} → S → MemberState S
new_lines served = member_state served no_members

-- with what a session did that was to do this
abbrev pub noted : MembersState → ℕ → ExchangeState → Aim → MembersState
noted members session exchange aim = option_map_or (after_reply members session) (done_by exchange aim) members

-- an account that a session opened is secured, where the session is not the operator's
abbrev pub secured_for : {S : Type 0} → Opens S → ℕ → S → Option ℕ → S
secured_for opens session served opened =
    option_map_or (λ account. if is_operator session then served else opens served account) opened served

abbrev pub noted_in : {S : Type 0} → (S → ExchangeState) → Opens S → MemberState S → ℕ → Aim → MemberState S
noted_in exchange opens state session aim =
    let now = exchange state.served in
    member_state (secured_for opens session state.served (opened_by now aim)) (noted state.members session now aim)

-- ---- a line
module _ {S : Type 0} (exchange : S → ExchangeState) (step : SaidStep S) (opens : Opens S) where
  -- answered as where there is no rule, and what it did is noted
  abbrev pub passed_line : ℕ → ℕ → MemberState S → List ℕ → Request → List ℕ × MemberState S
  passed_line session number state body request =
      let now = step number state.served body (Ok request) in
      (now.0, noted_in exchange opens (member_state now.1 state.members) session (aim_of (exchange state.served) request))

  -- unless the rule refuses it, or the session has used its part
  abbrev pub ruled_line : ℕ → ℕ → MemberState S → List ℕ → Request → List ℕ × MemberState S
  ruled_line session number state body request =
      option_map_or (λ refusal. (refused_text number refusal, state))
      (first_of (rule_refusals state.members (exchange state.served) session request))
      (passed_line session number state body request)

  -- what is no line with a command is answered as ever
  abbrev pub member_said : ℕ → ℕ → MemberState S → List ℕ → Result Request Fault → List ℕ × MemberState S
  member_said session number state body (Ok request) = ruled_line session number state body request
  member_said session number state body (Err fault) =
      let now = step number state.served body (Err fault) in (now.0, member_state now.1 state.members)

  abbrev pub member_line : BodyStep (MemberState S)
  member_line session number state body = member_said session number state body (said_in SERVED body)

  -- ---- where there is no rule
  -- an account that a line opens is secured all the same
  abbrev pub free_said : ℕ → ℕ → S → List ℕ → Result Request Fault → List ℕ × S
  free_said session number served body said =
      let now = step number served body said in
      (now.0, secured_for opens session now.1 (opened_by (exchange now.1) (aim_of_said (exchange served) said)))

  abbrev pub free_line : BodyStep S
  free_line session number served body = free_said session number served body (said_in SERVED body)
