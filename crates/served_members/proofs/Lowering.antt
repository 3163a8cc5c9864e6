-- No proposal lowers what a clear tells, while the live orders of its market stay, whoever says the
-- lines.
use Rattle.std.proofs.Common.{◌≡◌, ℕ, Bool, true, false, List, [], ◌∷◌, Option, None, Some, if◌then◌else◌, refl, sym, ap, subst}
use Rattle.command_text.specs.declared.words.TheConstants.{SERVED}
use Rattle.command_text.specs.Commands.{body_of_line}
use Rattle.command_text.specs.Said.{said_in}
use Rattle.exchange_core.specs.ExchangeState.{ExchangeState}
use Rattle.exchange_core.specs.Step.{batch_in}
use Rattle.exchange_lines.specs.LineSteps.{InputLine}
use Rattle.members.specs.Rule.{is_operator}
use Rattle.proposal_lines.specs.KeptByMarket.{KeptProposals}
use Rattle.proposal_lines.specs.LaterClears.{IsNoClearOf}
use Rattle.proposal_lines.specs.ProposingState.{state_of}
use Rattle.proposal_lines.proofs.LaterClears.{IsNoWorseIn, IsNoWorseFor, StepsAlike, lowers_nothing}
use Rattle.secured_lines.specs.ServingState.{ServingState}
use Rattle.secured_lines.specs.Output.{secured_line}
use Rattle.secured_lines.specs.SecuredState.{SecuredState, exchange_in, with_opened, with_proposing}
use Rattle.secured_lines.proofs.Lowering as lines
use Rattle.secured_lines.proofs.Telling as secured
use Rattle.member_lines.specs.Aims.{aim_of_said, opened_by}
use Rattle.member_lines.specs.Lines.{secured_for}
use Rattle.served_members.specs.Members.{free_body}
use Rattle.served_members.specs.Promises.{FreeLinesLowerNothing, placing, turn_line}
use Rattle.served_members.proofs.Serving.{proposing_of, same_serving}

-- ---- an account that was opened is secured in both
module _ (market session : ℕ) (one other : SecuredState) (good : IsNoWorseIn secured.proposing_of with_proposing market one other) where
  abbrev Good : Option ℕ → Type 0
  Good opened = IsNoWorseIn secured.proposing_of with_proposing market (secured_for with_opened session one opened) (secured_for with_opened session other opened)

  opened_good : (opened : Option ℕ) → Good opened
  opened_good None = good
  opened_good (Some account) = by (is_operator session)
    where
      by : (operator : Bool)
          → IsNoWorseIn secured.proposing_of with_proposing market (if operator then one else with_opened one account) (if operator then other else with_opened other account)
      by true = good
      by false = record { placed = ap (λ (s : SecuredState). with_opened s account) good.placed; no_worse = good.no_worse }

-- ---- a line
module _ (market : ℕ) (line : InputLine) (session : ℕ) (served : SecuredState) (kept : KeptProposals)
    (no_worse : IsNoWorseFor market (exchange_in served) served.serving.proposing.kept kept) (none : IsNoClearOf market (body_of_line line.bytes)) where
  abbrev other : SecuredState
  other = with_proposing served (state_of (exchange_in served) kept)

  abbrev behind : SecuredState → SecuredState
  behind state = (secured_line line.number state line.bytes).1

  abbrev opened_in : ExchangeState → Option ℕ
  opened_in after = opened_by after (aim_of_said (exchange_in served) (said_in SERVED line.bytes))

  line_good : batch_in (exchange_in (free_body session line.number served line.bytes).1) market ≡ batch_in (exchange_in served) market
      → IsNoWorseIn secured.proposing_of with_proposing market (free_body session line.number served line.bytes).1 (free_body session line.number other line.bytes).1
  line_good stay =
      let first = behind served in
      let same = same_serving session first (opened_in (exchange_in first)) in
      let stays = subst (λ (s : ServingState). batch_in s.proposing.exchange market ≡ batch_in (exchange_in served) market) same stay in
      let good = lines.lines_alike market line served kept no_worse none stays in
      subst (λ (e : ExchangeState).
      IsNoWorseIn secured.proposing_of with_proposing market (secured_for with_opened session first (opened_in (exchange_in first)))
      (secured_for with_opened session (behind other) (opened_in e))) (sym good.no_worse.exchange)
      (opened_good market session first (behind other) good (opened_in (exchange_in first)))

-- with the sessions that are to say the lines behind it
behind_good : (market : ℕ) (later : List ℕ) (one two : SecuredState) → IsNoWorseIn secured.proposing_of with_proposing market one two
    → IsNoWorseIn proposing_of placing market (later, one) (later, two)
behind_good market later one two good = record { placed = ap (λ (s : SecuredState). (later, s)) good.placed; no_worse = good.no_worse }

turns_alike : StepsAlike proposing_of turn_line placing
turns_alike market line ([], served) kept no_worse none stay =
    behind_good market [] (free_body 0 line.number served line.bytes).1 (free_body 0 line.number (other market line 0 served kept no_worse none) line.bytes).1
    (line_good market line 0 served kept no_worse none stay)
turns_alike market line (session ∷ later, served) kept no_worse none stay =
    behind_good market later (free_body session line.number served line.bytes).1 (free_body session line.number (other market line session served kept no_worse none) line.bytes).1
    (line_good market line session served kept no_worse none stay)

pub free_lines_lower_nothing : FreeLinesLowerNothing
free_lines_lower_nothing = lowers_nothing proposing_of turn_line placing turns_alike (λ state now. refl)
