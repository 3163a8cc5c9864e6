-- Each line that a session says is no event, or one of its session: so what is promised of events is
-- promised of lines.
use Rattle.std.proofs.Common.{◌≡◌, ℕ, ◌+◌, Bool, true, false, List, [], ◌∷◌, ◌⊎◌, inl, inr, Option, Some, None, Result, Ok, Err, if◌then◌else◌, refl, sym, ap, ◌∙◌, subst}
use Rattle.std.specs.Prelude.{IfOk}
use Rattle.std.specs.Option.{option_map_or}
use Rattle.command_text.specs.declared.asked.Fault.{Fault}
use Rattle.command_text.specs.declared.command.Command.{Command}
use Rattle.command_text.specs.declared.command.Command.TheVariants as command
use Rattle.command_text.specs.declared.requests.Request.{Request}
use Rattle.command_text.specs.declared.requests.Request.TheVariants as asks
use Rattle.command_text.specs.declared.words.TheConstants.{SERVED}
use Rattle.command_text.specs.Said.{said_in}
use Rattle.command_text.specs.Within.{IsWithin, RequestIsWithin}
use Rattle.command_text.proofs.ReadWithin.{said_is_within}
use Rattle.exchange_core.specs.ExchangeState.{ExchangeState}
use Rattle.exchange_core.specs.Kept.{IsKept}
use Rattle.exchange_core.specs.Step.{step}
use Rattle.lists.specs.Refusals.{first_of}
use Rattle.members.specs.Laws.{Charged, Event, HasFewLive, IsByRule, IsWithinQuota, Managed, MayCome, Said, after_event, after_passed, command_in, managed, refusal_to, session_in}
use Rattle.members.specs.Members.{MembersState, counted_of, owner_of}
use Rattle.members.specs.Refusals.{rule_refusals}
use Rattle.members.specs.Rule.{is_operator}
use Rattle.members.specs.declared.refusal.MemberRefusal.{MemberRefusal}
use Rattle.members.proofs.ByRule.{moved, unmoved}
use Rattle.members.proofs.Counting.{quotas_hold}
use Rattle.members.proofs.LiveQuota.{live_orders_are_few}
use Rattle.members.proofs.OwnerLists.{owners_stay}
use Rattle.member_lines.specs.Laws.{IsSaidByRule, LinesMoveByRule, LiveOrdersStayFew, OwnersAreKept, QuotasAreKept, SaidBody, after_bodies, after_body, managed_in}
use Rattle.member_lines.specs.Lines.{MemberState, member_said, noted, passed_line, secured_for}
use Rattle.member_lines.specs.Runs.{IsCharged, IsMoved, Opens, RunsBy, SaidStep}
use Rattle.member_lines.specs.Aims.{aim_of, command_aim, opened_by}
use Rattle.member_lines.specs.Refused.{refused_text}
use Rattle.member_lines.proofs.Noting.{none_noted, step_noted}

-- ---- what a line says, as an event
-- the event of a command that its session says
record IsEvent (session : ℕ) (said : Command) (before after : Managed) : Type 0 where
  event : Event
  by : session_in event ≡ session
  says : command_in event ≡ said
  may : MayCome before event
  is : after ≡ after_event before event

-- nothing is changed, or a command is the event
abbrev IsOne : ℕ → Result Request Fault → Managed → Managed → Type 0
IsOne session (Ok (asks.Command said)) before after = (after ≡ before) ⊎ IsEvent session said before after
IsOne session said before after = after ≡ before

unchanged : (session : ℕ) (said : Result Request Fault) (state : Managed) → IsOne session said state state
unchanged session (Ok (asks.Command said)) state = inl refl
unchanged session (Ok (asks.Quote request)) state = refl
unchanged session (Ok (asks.Price request)) state = refl
unchanged session (Ok (asks.Try request)) state = refl
unchanged session (Ok (asks.Margin request)) state = refl
unchanged session (Ok (asks.Book market)) state = refl
unchanged session (Ok (asks.Positions account market)) state = refl
unchanged session (Ok (asks.Secure account)) state = refl
unchanged session (Ok (asks.Need account)) state = refl
unchanged session (Ok (asks.Close market)) state = refl
unchanged session (Ok (asks.Reopen market)) state = refl
unchanged session (Ok (asks.Propose request)) state = refl
unchanged session (Err fault) state = refl

-- an event that the rule lets through
passed : (state : Managed) (event : Event) → refusal_to state event ≡ None → after_event state event ≡ after_passed state event
passed state event none = ap (λ (refused : Option MemberRefusal). option_map_or (λ (r : MemberRefusal). state) refused (after_passed state event)) none

module _ (session : ℕ) (state : Managed) where
  -- the members with what was done noted
  abbrev Behind : Command → ExchangeState → Managed
  Behind said after = managed after (noted state.members session after (command_aim state.exchange said))

  kept_from : (said : Command) (after : ExchangeState) → after ≡ state.exchange → Behind said after ≡ state
  kept_from said after same = ap (Behind said) same ∙ ap (λ (m : MembersState). managed state.exchange m) (none_noted state.members session state.exchange said)

  carried_out : (said : Command) (after : ExchangeState) → IsWithin said → refusal_to state (Said session said) ≡ None → after ≡ (step state.exchange said).1
      → IsEvent session said state (Behind said after)
  carried_out said after within none same = record {
    event = Said session said;
    by = refl;
    says = refl;
    may = within;
    is =
        ap (Behind said) same ∙ ap (λ (m : MembersState). managed (step state.exchange said).1 m) (step_noted state.members session state.exchange said)
        ∙ sym (passed state (Said session said) none);
  }

  charged : (said : Command) (after : ExchangeState) → refusal_to state (Said session said) ≡ None → IsCharged said state.exchange after → IsEvent session said state (Behind said after)
  charged (command.Clear market budget) after none is =
      let event = Charged session market budget is.0 in
      record {
        event = event;
        by = refl;
        says = refl;
        may = (is.1, is.2);
        is = ap (λ (e : ExchangeState). managed e state.members) is.3 ∙ sym (passed state event none);
      }
  charged (command.Open account) after none is = absurd is
  charged (command.Deposit account amount) after none is = absurd is
  charged (command.Withdraw account amount) after none is = absurd is
  charged (command.Market market underlyings) after none is = absurd is
  charged (command.Trade side account market kind strike price quantity count weights) after none is = absurd is
  charged (command.Bundle side account market price quantity bundle) after none is = absurd is
  charged (command.Cancel account order) after none is = absurd is
  charged (command.Settle market count prices) after none is = absurd is
  charged (command.Balance account) after none is = absurd is

  one_command : (said : Command) (after : ExchangeState) → IsWithin said → refusal_to state (Said session said) ≡ None → IsMoved (Ok (asks.Command said)) state.exchange after
      → IsOne session (Ok (asks.Command said)) state (Behind said after)
  one_command said after within none (inl same) = inl (kept_from said after same)
  one_command said after within none (inr (inl same)) = inr (carried_out said after within none same)
  one_command said after within none (inr (inr is)) = inr (charged said after none is)

  -- all else that the rule lets through leaves the exchange as it is
  one_passed : (said : Request) (after : ExchangeState) → RequestIsWithin said → first_of (rule_refusals state.members state.exchange session said) ≡ None
      → IsMoved (Ok said) state.exchange after → IsOne session (Ok said) state (managed after (noted state.members session after (aim_of state.exchange said)))
  one_passed (asks.Command said) after within none is = one_command said after within none is
  one_passed (asks.Quote request) after within none is = ap (λ (e : ExchangeState). managed e state.members) is
  one_passed (asks.Price request) after within none is = ap (λ (e : ExchangeState). managed e state.members) is
  one_passed (asks.Try request) after within none is = ap (λ (e : ExchangeState). managed e state.members) is
  one_passed (asks.Margin request) after within none is = ap (λ (e : ExchangeState). managed e state.members) is
  one_passed (asks.Book market) after within none is = ap (λ (e : ExchangeState). managed e state.members) is
  one_passed (asks.Positions account market) after within none is = ap (λ (e : ExchangeState). managed e state.members) is
  one_passed (asks.Secure account) after within none is = ap (λ (e : ExchangeState). managed e state.members) is
  one_passed (asks.Need account) after within none is = ap (λ (e : ExchangeState). managed e state.members) is
  one_passed (asks.Close market) after within none is = ap (λ (e : ExchangeState). managed e state.members) is
  one_passed (asks.Reopen market) after within none is = ap (λ (e : ExchangeState). managed e state.members) is
  one_passed (asks.Propose request) after within none is = ap (λ (e : ExchangeState). managed e state.members) is

module _ {S : Type 0} (exchange : S → ExchangeState) (says : SaidStep S) (opens : Opens S) (Sound : S → Type 0) (runs : RunsBy exchange says opens Sound) where
  abbrev at : MemberState S → Managed
  at state = managed_in exchange says opens state

  -- ---- an account that is secured as it is opened
  secured_left : (session : ℕ) (served : S) (opened : Option ℕ) → exchange (secured_for opens session served opened) ≡ exchange served
  secured_left session served None = refl
  secured_left session served (Some account) = by (is_operator session)
    where
      by : (operator : Bool) → exchange (if operator then served else opens served account) ≡ exchange served
      by true = refl
      by false = runs.left served account

  secured_sound : (session : ℕ) (served : S) (opened : Option ℕ) → Sound served → Sound (secured_for opens session served opened)
  secured_sound session served None sound = sound
  secured_sound session served (Some account) sound = by (is_operator session)
    where
      by : (operator : Bool) → Sound (if operator then served else opens served account)
      by true = sound
      by false = runs.opened served account sound

  -- ---- one body
  module _ (number : ℕ) (state : MemberState S) (said : SaidBody) (sound : Sound state.served) where
    -- behind what it says
    abbrev behind_said : Result Request Fault → MemberState S
    behind_said r = (member_said exchange says opens said.session number state said.body r).1

    abbrev now : Result Request Fault → S
    now r = (says number state.served said.body r).1

    one_ruled : (request : Request) → RequestIsWithin request → IsMoved (Ok request) (exchange state.served) (exchange (now (Ok request)))
        → IsOne said.session (Ok request) (at state) (at (behind_said (Ok request)))
    one_ruled request within moved = by (first_of (rule_refusals state.members (exchange state.served) said.session request)) refl
      where
        by : (refused : Option MemberRefusal) → first_of (rule_refusals state.members (exchange state.served) said.session request) ≡ refused
            → IsOne said.session (Ok request) (at state)
            (at (option_map_or (λ (r : MemberRefusal). (refused_text number r, state)) refused (passed_line exchange says opens said.session number state said.body request)).1)
        by (Some refusal) is = unchanged said.session (Ok request) (at state)
        by None none =
            let after = now (Ok request) in
            let members = noted state.members said.session (exchange after) (aim_of (exchange state.served) request) in
            subst (λ (e : ExchangeState). IsOne said.session (Ok request) (at state) (managed e members))
            (sym (secured_left said.session after (opened_by (exchange after) (aim_of (exchange state.served) request))))
            (one_passed said.session (at state) request (exchange after) within none moved)

    one_said : (r : Result Request Fault) → IfOk r RequestIsWithin → IsMoved r (exchange state.served) (exchange (now r)) → IsOne said.session r (at state) (at (behind_said r))
    one_said (Ok request) within moved = one_ruled request within moved
    one_said (Err fault) within moved = ap (λ (e : ExchangeState). managed e state.members) moved

    one_body : IsOne said.session (said_in SERVED said.body) (at state) (at (after_body exchange says opens number state said))
    one_body = one_said (said_in SERVED said.body) (said_is_within SERVED said.body) (runs.moves number state.served said.body sound)

    sound_ruled : (request : Request) → Sound (now (Ok request)) → Sound (behind_said (Ok request)).served
    sound_ruled request next = by (first_of (rule_refusals state.members (exchange state.served) said.session request))
      where
        by : (refused : Option MemberRefusal)
            → Sound (option_map_or (λ (r : MemberRefusal). (refused_text number r, state)) refused (passed_line exchange says opens said.session number state said.body request)).1.served
        by (Some refusal) = sound
        by None =
            let after = now (Ok request) in
            secured_sound said.session after (opened_by (exchange after) (aim_of (exchange state.served) request)) next

    sound_said : (r : Result Request Fault) → Sound (now r) → Sound (behind_said r).served
    sound_said (Ok request) next = sound_ruled request next
    sound_said (Err fault) next = next

    sound_behind : Sound (after_body exchange says opens number state said).served
    sound_behind = sound_said (said_in SERVED said.body) (runs.stays number state.served said.body sound)

  -- ---- what stays through events stays through bodies
  module _ (P : Managed → Type 0) (stays : (before : Managed) (event : Event) → IsKept before.exchange → MayCome before event → P before → P (after_event before event)) where
    behind_one : (session : ℕ) (r : Result Request Fault) (before after : Managed) → IsKept before.exchange → P before → IsOne session r before after → P after
    behind_one session (Ok (asks.Command said)) before after kept h (inl same) = subst P (sym same) h
    behind_one session (Ok (asks.Command said)) before after kept h (inr is) = subst P (sym is.is) (stays before is.event kept is.may h)
    behind_one session (Ok (asks.Quote request)) before after kept h same = subst P (sym same) h
    behind_one session (Ok (asks.Price request)) before after kept h same = subst P (sym same) h
    behind_one session (Ok (asks.Try request)) before after kept h same = subst P (sym same) h
    behind_one session (Ok (asks.Margin request)) before after kept h same = subst P (sym same) h
    behind_one session (Ok (asks.Book market)) before after kept h same = subst P (sym same) h
    behind_one session (Ok (asks.Positions account market)) before after kept h same = subst P (sym same) h
    behind_one session (Ok (asks.Secure account)) before after kept h same = subst P (sym same) h
    behind_one session (Ok (asks.Need account)) before after kept h same = subst P (sym same) h
    behind_one session (Ok (asks.Close market)) before after kept h same = subst P (sym same) h
    behind_one session (Ok (asks.Reopen market)) before after kept h same = subst P (sym same) h
    behind_one session (Ok (asks.Propose request)) before after kept h same = subst P (sym same) h
    behind_one session (Err fault) before after kept h same = subst P (sym same) h

    behind_bodies : (number : ℕ) (state : MemberState S) (bodies : List SaidBody) → Sound state.served → P (at state) → P (at (after_bodies exchange says opens number state bodies))
    behind_bodies number state [] sound h = h
    behind_bodies number state (said ∷ more) sound h =
        let next = after_body exchange says opens number state said in
        behind_bodies (number + 1) next more (sound_behind number state said sound)
        (behind_one said.session (said_in SERVED said.body) (at state) (at next) (runs.kept state.served sound) h (one_body number state said sound))

  -- ---- by the rule
  by_rule : (session : ℕ) (said : Command) (before after : MemberState S) → IsKept (exchange before.served) → IsEvent session said (at before) (at after)
      → IsByRule before.members.owners session said (exchange before.served) (exchange after.served)
  by_rule session said before after kept is =
      let one = (moved (at before) is.event kept is.may).rule in
      let event = is.event in
      let later = (after_event (at before) event).exchange in
      subst (λ (m : Managed). IsByRule before.members.owners session said (exchange before.served) m.exchange) (sym is.is)
      (subst (λ (c : Command). IsByRule before.members.owners session c (exchange before.served) later) is.says
      (subst (λ s. IsByRule before.members.owners s (command_in event) (exchange before.served) later) is.by one))

  one_by_rule : (session : ℕ) (r : Result Request Fault) (before after : MemberState S) → IsKept (exchange before.served) → IsOne session r (at before) (at after)
      → IsSaidByRule exchange says opens r session before after
  one_by_rule session (Ok (asks.Command said)) before after kept (inl same) =
      subst (λ (m : Managed). IsByRule before.members.owners session said (exchange before.served) m.exchange) (sym same)
      (unmoved before.members.owners session (exchange before.served) said)
  one_by_rule session (Ok (asks.Command said)) before after kept (inr is) = by_rule session said before after kept is
  one_by_rule session (Ok (asks.Quote request)) before after kept same = ap (λ (m : Managed). m.exchange) same
  one_by_rule session (Ok (asks.Price request)) before after kept same = ap (λ (m : Managed). m.exchange) same
  one_by_rule session (Ok (asks.Try request)) before after kept same = ap (λ (m : Managed). m.exchange) same
  one_by_rule session (Ok (asks.Margin request)) before after kept same = ap (λ (m : Managed). m.exchange) same
  one_by_rule session (Ok (asks.Book market)) before after kept same = ap (λ (m : Managed). m.exchange) same
  one_by_rule session (Ok (asks.Positions account market)) before after kept same = ap (λ (m : Managed). m.exchange) same
  one_by_rule session (Ok (asks.Secure account)) before after kept same = ap (λ (m : Managed). m.exchange) same
  one_by_rule session (Ok (asks.Need account)) before after kept same = ap (λ (m : Managed). m.exchange) same
  one_by_rule session (Ok (asks.Close market)) before after kept same = ap (λ (m : Managed). m.exchange) same
  one_by_rule session (Ok (asks.Reopen market)) before after kept same = ap (λ (m : Managed). m.exchange) same
  one_by_rule session (Ok (asks.Propose request)) before after kept same = ap (λ (m : Managed). m.exchange) same
  one_by_rule session (Err fault) before after kept same = ap (λ (m : Managed). m.exchange) same

  -- ---- the laws
  pub owners_are_kept : OwnersAreKept exchange says opens Sound
  owners_are_kept number state bodies sound account owner is =
      behind_bodies (λ m. owner_of m.members.owners account ≡ Some owner) (λ before event kept may h. owners_stay before (event ∷ []) account owner h) number state bodies sound is

  pub quotas_are_kept : QuotasAreKept exchange says opens Sound
  quotas_are_kept number state bodies sound session other within =
      behind_bodies (λ m. IsWithinQuota (counted_of m.members.counts session)) (λ before event kept may h. quotas_hold before (event ∷ []) session other h) number state bodies sound within

  pub live_orders_stay_few : LiveOrdersStayFew exchange says opens Sound
  live_orders_stay_few number state bodies sound session other few =
      behind_bodies (λ m. HasFewLive m session) (λ before event kept may h. live_orders_are_few before (event ∷ []) session other kept (may, tt) h) number state bodies sound few

  pub lines_move_by_rule : LinesMoveByRule exchange says opens Sound
  lines_move_by_rule number state [] sound = tt
  lines_move_by_rule number state (said ∷ more) sound =
      let next = after_body exchange says opens number state said in (
        one_by_rule said.session (said_in SERVED said.body) state next (runs.kept state.served sound) (one_body number state said sound),
        lines_move_by_rule (number + 1) next more (sound_behind number state said sound),
      )
