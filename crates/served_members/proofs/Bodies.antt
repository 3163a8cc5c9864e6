-- What a body does: nothing where the rule refuses it; else what its line does, and an account that
-- it opened is secured where its session is not the operator's.
use Rattle.std.proofs.Common.{◌≡◌, ℕ, Bool, true, false, Option, Some, None, Result, Ok, Err, if◌then◌else◌, refl}
use Rattle.std.specs.Option.{option_map_or}
use Rattle.command_text.specs.declared.asked.Fault.{Fault}
use Rattle.command_text.specs.declared.requests.Request.{Request}
use Rattle.command_text.specs.declared.words.TheConstants.{SERVED}
use Rattle.command_text.specs.Said.{said_in}
use Rattle.lists.specs.Refusals.{first_of}
use Rattle.members.specs.Refusals.{rule_refusals}
use Rattle.members.specs.Rule.{is_operator}
use Rattle.members.specs.declared.refusal.MemberRefusal.{MemberRefusal}
use Rattle.secured_lines.specs.Output.{secured_line, secured_said}
use Rattle.secured_lines.specs.SecuredState.{SecuredState, exchange_in, with_opened}
use Rattle.member_lines.specs.Aims.{aim_of_said, opened_by}
use Rattle.member_lines.specs.Laws.{SaidBody, refusal_of_said, rule_refusal}
use Rattle.member_lines.specs.Lines.{member_said, member_state, noted_in, passed_line, secured_for}
use Rattle.member_lines.specs.Refused.{refused_text}
use Rattle.served_members.specs.Laws.{after_body}
use Rattle.served_members.specs.Members.{ServedMembers}

-- ---- a body
module _ (number : ℕ) (state : ServedMembers) (said : SaidBody) where
  -- behind what it says, where the rule lets it through
  abbrev carried_by : Result Request Fault → ServedMembers
  carried_by r =
      noted_in exchange_in with_opened (member_state (secured_said number state.served said.body r).1 state.members) said.session
      (aim_of_said (exchange_in state.served) r)

  -- behind its line
  abbrev pub line_state : SecuredState
  line_state = (secured_line number state.served said.body).1

  -- the account that it opened
  abbrev pub opened_in : Option ℕ
  opened_in = opened_by (exchange_in line_state) (aim_of_said (exchange_in state.served) (said_in SERVED said.body))

  abbrev pub carried : ServedMembers
  carried = carried_by (said_in SERVED said.body)

  module _ (P : ServedMembers → Type 0) (refused : P state) where
    by_refusal : (request : Request) (refusal : Option MemberRefusal) → (refusal ≡ None → P (carried_by (Ok request)))
        → P (option_map_or (λ (r : MemberRefusal). (refused_text number r, state)) refusal (passed_line exchange_in secured_said with_opened said.session number state said.body request)).1
    by_refusal request None through = through refl
    by_refusal request (Some r) through = refused

    by_said : (r : Result Request Fault) → (refusal_of_said exchange_in secured_said with_opened state said.session r ≡ None → P (carried_by r))
        → P (member_said exchange_in secured_said with_opened said.session number state said.body r).1
    by_said (Ok request) through = by_refusal request (first_of (rule_refusals state.members (exchange_in state.served) said.session request)) through
    by_said (Err fault) through = through refl

    pub by_body : (rule_refusal exchange_in secured_said with_opened state said ≡ None → P carried) → P (after_body number state said)
    by_body through = by_said (said_in SERVED said.body) through

-- ---- an account that it opened
module _ (P : SecuredState → Type 0) (session : ℕ) (served : SecuredState) (left : P served) where
  pub by_opened : (opened : Option ℕ) → ((account : ℕ) → opened ≡ Some account → is_operator session ≡ false → P (with_opened served account))
      → P (secured_for with_opened session served opened)
  by_opened None new = left
  by_opened (Some account) new = by (is_operator session) refl
    where
      by : (operator : Bool) → is_operator session ≡ operator → P (if operator then served else with_opened served account)
      by true is = left
      by false is = new account refl is
