-- What takes the place of the reference run's outcome is proved, and no proposal lowers what is
-- cleared.
use Rattle.std.proofs.Common.{◌≡◌, ℕ, List, [], map, Bool, true, false, if◌then◌else◌, Option, Some, None, option_and_then, Ok, refl, sym, ap, ◌∙◌, subst, arith, pos, ◌*ℤ◌}
use Rattle.std.specs.Prelude.{IfSome}
use Rattle.std.specs.Option.{option_map, option_map_or}
use Rattle.std.proofs.lemmas.Int.{ints}
use Rattle.std.proofs.lemmas.Option.{same_Some}
use Rattle.arithmetic.proofs.Tests.{int_le-no, int_le-yes}
use Rattle.proposal_check.specs.ProposalLaws.{Proves}
use Rattle.proposal_check.specs.Proposals.{proposal_bound}
use Rattle.cert_check.specs.Conditions.{is_optimal_mark}
use Rattle.cert_check.specs.Events.{verdict_of}
use Rattle.cert_check.specs.declared.outcome.Verdict.TheVariants.{Yes}
use Rattle.cert_check.specs.declared.outcome.Mark.{Mark}
use Rattle.cert_check.specs.declared.outcome.Mark.TheVariants.{Optimal, Wide, Budget}
use Rattle.cert_check.specs.declared.outcome.Outcome.{Outcome}
use Rattle.proposal_check.proofs.Proposals.{matches_join, proposals_are_decided}
use Rattle.clearing.specs.Outcome.{fallback, has_values, optimal_outcome, outcome_at, outcome_of, run_of}
use Rattle.clearing_model.specs.Certificate.{AreFractionFills}
use Rattle.exact_num.specs.Fraction.{AtMost, Fraction}
use Rattle.exact_num.specs.Tests.{is_at_most}
use Rattle.command_text.specs.declared.command.Command.TheVariants.{Clear}
use Rattle.exchange_core.specs.Refusals.{refusal_of}
use Rattle.exchange_core.specs.Step.{batch_in}
use Rattle.exchange_core.proofs.Covered.{batch_is_within, outcomes_are_judged_yes}
use Rattle.exchange_core.proofs.FirstRefusal.{batch_none}
use Rattle.form.specs.declared.orders.Batch.{Batch}
use Rattle.form.specs.declared.orders.Order.{Order}
use Rattle.frac.specs.Range.{limit}
use Rattle.frac.specs.Value.{fraction_of}
use Rattle.frac.specs.declared.frac128.Frac128.{Frac128}
use Rattle.order_book.specs.Book.{BookState, batch_of, market_of}
use Rattle.order_book.specs.Markets.{MarketState}
use Rattle.order_book.specs.Numbers.{numbers_of}
use Rattle.order_book.proofs.Accepting.{finishable}
use Rattle.proposal_text.specs.declared.replies.BoundedOutcome.{BoundedOutcome}
use Rattle.proposal_text.specs.declared.replies.StopReason.{StopReason}
use Rattle.proposals.specs.Best.{surplus_of}
use Rattle.proposals.specs.Laws.{IsProvedBest, as_proposal}
use Rattle.proposals.specs.declared.best.Best.{Best}
use Rattle.constraint_generation.specs.Run.{CoveredReading}
use Rattle.simplex_run.specs.Ending.{Ending, done, no_unit_left, unbounded, wide_at}
use Rattle.proposal_lines.specs.Clears.{better_in, reference_in}
use Rattle.proposal_lines.specs.KeptByMarket.{KeptProposals, best_in, bounded_as, bounded_by, bounded_in, matched_by, stop_of}
use Rattle.proposal_lines.specs.Laws.{ClearsAreAtLeast, ClearsAreProved, IsBetter, IsClearedAs, IsMatch, IsSound, charged_surplus, counted_in}
use Rattle.proposal_lines.specs.ProposingState.{ProposingState}
use Rattle.proposal_lines.specs.Proved.{AreProvedIn}
use Rattle.proposal_lines.proofs.Kept.{best_proved}

-- ---- tests
pub is_below : (x y : Fraction) → is_at_most x y ≡ false → AtMost y x
is_below x y above = int_le-no (x.numerator *ℤ pos y.denominator) (y.numerator *ℤ pos x.denominator) above

pub is_most : (x y : Fraction) → is_at_most x y ≡ true → AtMost x y
is_most x y most = int_le-yes (x.numerator *ℤ pos y.denominator) (y.numerator *ℤ pos x.denominator) most

-- ---- what takes the place of an outcome
-- where the run stopped and something is kept
abbrev pub bounded_where : Outcome → Option StopReason → Option Best → Option BoundedOutcome
bounded_where outcome run best = option_and_then (λ run. option_map (bounded_as outcome run) best) run

pub record IsChosen (outcome : Outcome) (run : Option StopReason) (best : Option Best) (better : BoundedOutcome) : Type 0 where
  pub kept : Best
  pub stop : StopReason
  pub is_kept : best ≡ Some kept
  pub is_stop : run ≡ Some stop
  pub is : better ≡ bounded_as outcome stop kept

pub chosen : (outcome : Outcome) (run : Option StopReason) (best : Option Best) (better : BoundedOutcome) → bounded_where outcome run best ≡ Some better → IsChosen outcome run best better
chosen outcome None best better e = absurd (cc)
chosen outcome (Some stop) None better e = absurd (cc)
chosen outcome (Some stop) (Some kept) better e =
    record { kept = kept; stop = stop; is_kept = refl; is_stop = refl; is = sym (same_Some (bounded_as outcome stop kept) better e) }

-- ---- the match, or what is kept
module _ (outcome : Outcome) (stop : StopReason) (kept : Best) where
  abbrev covers_less : Bool
  covers_less = is_at_most (surplus_of kept.covered) (fraction_of outcome.claim.surplus)

  pub bounded_has : (P : BoundedOutcome → Type 0) → (covers_less ≡ true → P (matched_by outcome stop kept)) → (covers_less ≡ false → P (bounded_by kept stop outcome.units))
      → P (bounded_as outcome stop kept)
  bounded_has P matched bounded = by covers_less refl
    where
      by : (t : Bool) → covers_less ≡ t → P (if t then matched_by outcome stop kept else bounded_by kept stop outcome.units)
      by true is = matched is
      by false is = bounded is

  bounded_run : (bounded_as outcome stop kept).run ≡ stop
  bounded_run = bounded_has (λ b. b.run ≡ stop) (λ is. refl) (λ is. refl)

  pub bounded_units : (bounded_as outcome stop kept).units ≡ outcome.units
  bounded_units = bounded_has (λ b. b.units ≡ outcome.units) (λ is. refl) (λ is. refl)

  pub bounded_bound : (bounded_as outcome stop kept).bound ≡ kept.bounded.bound
  bounded_bound = bounded_has (λ b. b.bound ≡ kept.bounded.bound) (λ is. refl) (λ is. refl)

  -- it covers no less than either
  pub not_below_match : AtMost (fraction_of outcome.claim.surplus) (fraction_of (bounded_as outcome stop kept).proposal.claim.surplus)
  not_below_match =
      bounded_has (λ b. AtMost (fraction_of outcome.claim.surplus) (fraction_of b.proposal.claim.surplus)) (λ is. omega (arith, ints))
      (λ is. is_below (surplus_of kept.covered) (fraction_of outcome.claim.surplus) is)

  pub not_below_kept : AtMost (surplus_of kept.covered) (fraction_of (bounded_as outcome stop kept).proposal.claim.surplus)
  not_below_kept =
      bounded_has (λ b. AtMost (surplus_of kept.covered) (fraction_of b.proposal.claim.surplus)) (λ is. is_most (surplus_of kept.covered) (fraction_of outcome.claim.surplus) is)
      (λ is. omega (arith, ints))

-- a run that stopped gives no certificate
not_optimal : (mark : Mark) (stop : StopReason) → stop_of mark ≡ Some stop → is_optimal_mark mark ≡ false
not_optimal (Optimal cover measure) stop e = absurd (cc)
not_optimal (Wide wide) stop e = refl
not_optimal Budget stop e = refl

-- either proves the bound that is kept
abbrev IsBoundBy : Batch → BoundedOutcome → Type 0
IsBoundBy batch better = proposal_bound limit batch better.proposal ≡ Ok (fraction_of better.bound)

bounded_proves : (batch : Batch) (outcome : Outcome) (stop : StopReason) (kept : Best) → verdict_of limit batch outcome ≡ Yes → stop_of outcome.mark ≡ Some stop
    → IsProvedBest batch kept → IsBoundBy batch (bounded_as outcome stop kept)
bounded_proves batch outcome stop kept judged stopped proved =
    bounded_has outcome stop kept (IsBoundBy batch)
    (λ is. matches_join batch outcome (as_proposal kept) (fraction_of kept.bounded.bound) (not_optimal outcome.mark stop stopped) judged proved) (λ is. proved)

-- ---- where the run stopped, the outcome is the match
abbrev IsMatchedIfStopped : List Order → Outcome → Type 0
IsMatchedIfStopped orders outcome = (run : StopReason) → stop_of outcome.mark ≡ Some run → outcome ≡ fallback orders outcome.mark outcome.units

by_values : (orders : List Order) (units spent : ℕ) (s : CoveredReading) (has : Bool) → IsMatchedIfStopped orders (if has then optimal_outcome s spent else fallback orders Budget units)
unfolding optimal_outcome fallback
by_values orders units spent (r, cover) true run is = absurd (cc)
by_values orders units spent s false run is = refl

matched_at : (orders : List Order) (units : ℕ) (end : Ending CoveredReading) → IsMatchedIfStopped orders (outcome_at orders units end)
unfolding fallback
matched_at orders units (done s spent) run is = by_values orders units spent s (has_values s) run is
matched_at orders units (wide_at spent wide) run is = refl
matched_at orders units (no_unit_left spent) run is = refl
matched_at orders units (unbounded d spent) run is = refl

matched : (batch : Batch) (budget : ℕ) → IsMatchedIfStopped batch.orders (outcome_of batch budget)
unfolding outcome_of
matched batch budget = matched_at batch.orders budget (run_of batch budget)

-- where nothing takes its place, nothing counts
none_counts : (outcome : Outcome) (run : Option StopReason) (best : Option Best) (Matched : Type 0) → ((stop : StopReason) → run ≡ Some stop → Matched)
    → bounded_where outcome run best ≡ None → IfSome run (λ stop. Matched × (best ≡ None))
none_counts outcome None best Matched stops e = tt
none_counts outcome (Some stop) None Matched stops e = (stops stop refl, refl)
none_counts outcome (Some stop) (Some kept) Matched stops e = absurd (cc)

module _ (book : BookState) (market : ℕ) (m : MarketState) (found : market_of book market ≡ Some m) (kept : KeptProposals) (are : AreProvedIn book kept) where
  counted_proved : (best : Best) → best_in market (numbers_of m.live) kept ≡ Some best → IsProvedBest (batch_of m) best
  counted_proved best is = subst (λ o. IfSome o (IsProvedBest (batch_of m))) is (best_proved book market m found kept are)

  abbrev IsIn : Batch → Outcome → BoundedOutcome → Type 0
  IsIn batch outcome better = bounded_in market (numbers_of batch.orders) outcome kept ≡ Some better

  own_bound : (outcome : Outcome) → verdict_of limit (batch_of m) outcome ≡ Yes → (better : BoundedOutcome) → IsIn (batch_of m) outcome better → IsBoundBy (batch_of m) better
  own_bound outcome judged better e =
      let c = chosen outcome (stop_of outcome.mark) (best_in market (numbers_of m.live) kept) better e in
      subst (IsBoundBy (batch_of m)) (sym c.is) (bounded_proves (batch_of m) outcome c.stop c.kept judged c.is_stop (counted_proved c.kept c.is_kept))

  -- for a batch that was found
  pub better_bound : (batch : Batch) → batch ≡ batch_of m → (outcome : Outcome) → verdict_of limit batch outcome ≡ Yes → (better : BoundedOutcome) → IsIn batch outcome better
      → proposal_bound limit batch better.proposal ≡ Ok (fraction_of better.bound)
  better_bound batch is outcome judged better e =
      subst (λ (b : Batch). IsBoundBy b better) (sym is)
      (own_bound outcome (subst (λ (b : Batch). verdict_of limit b outcome ≡ Yes) is judged) better (subst (λ (b : Batch). IsIn b outcome better) is e))

  -- its fills are fills of the batch, where those of the outcome are
  abbrev AreFillsOf : Batch → List Frac128 → Type 0
  AreFillsOf batch fills = AreFractionFills batch.orders (map fraction_of fills)

  own_fills : (outcome : Outcome) → AreFillsOf (batch_of m) outcome.fills → (better : BoundedOutcome) → IsIn (batch_of m) outcome better → AreFillsOf (batch_of m) better.proposal.fills
  own_fills outcome fills better e =
      let c = chosen outcome (stop_of outcome.mark) (best_in market (numbers_of m.live) kept) better e in
      let proved = (proposals_are_decided (batch_of m) (as_proposal c.kept)).proved (fraction_of c.kept.bounded.bound) (counted_proved c.kept c.is_kept) in
      subst (λ (b : BoundedOutcome). AreFillsOf (batch_of m) b.proposal.fills) (sym c.is)
      (bounded_has outcome c.stop c.kept (λ b. AreFillsOf (batch_of m) b.proposal.fills) (λ is. fills) (λ is. proved.covered.covers.are_fills))

  pub better_fills : (batch : Batch) → batch ≡ batch_of m → (outcome : Outcome) → AreFillsOf batch outcome.fills → (better : BoundedOutcome) → IsIn batch outcome better
      → AreFillsOf batch better.proposal.fills
  better_fills batch is outcome fills better e =
      subst (λ (b : Batch). AreFillsOf b better.proposal.fills) (sym is)
      (own_fills outcome (subst (λ (b : Batch). AreFillsOf b outcome.fills) is fills) better (subst (λ (b : Batch). IsIn b outcome better) is e))

-- it is at least as good as the match, where that is the outcome
is_better : (batch : Batch) (outcome : Outcome) (best : Option Best) (better : BoundedOutcome) → Proves batch better.proposal (fraction_of better.bound) → IsMatchedIfStopped batch.orders outcome
    → bounded_where outcome (stop_of outcome.mark) best ≡ Some better → IsBetter batch outcome better
is_better batch outcome best better proves match e =
    let c = chosen outcome (stop_of outcome.mark) best better e in
    let run : better.run ≡ c.stop = ap (λ (b : BoundedOutcome). b.run) c.is ∙ bounded_run outcome c.stop c.kept in
    let stopped : stop_of outcome.mark ≡ Some better.run = c.is_stop ∙ ap (λ (r : StopReason). Some r) (sym run) in
    record {
      proves = proves;
      stopped = stopped;
      units = ap (λ (b : BoundedOutcome). b.units) c.is ∙ bounded_units outcome c.stop c.kept;
      matched = match better.run stopped;
      no_less = subst (λ (b : BoundedOutcome). AtMost (fraction_of outcome.claim.surplus) (fraction_of b.proposal.claim.surplus)) (sym c.is) (not_below_match outcome c.stop c.kept);
    }

pub batch_is : (state : ProposingState) (market : ℕ) (m : MarketState) → market_of state.exchange.book market ≡ Some m → batch_in state.exchange market ≡ batch_of m
batch_is state market m found = ap (λ r. option_map_or batch_of r (record { underlyings = 0; orders = [] })) found

pub clears_are_proved : ClearsAreProved
clears_are_proved state market budget sound accepted = by (better_in state market budget) refl
  where
    batch : Batch
    batch = batch_in state.exchange market

    outcome : Outcome
    outcome = outcome_of batch budget

    by : (better : Option BoundedOutcome) → better_in state market budget ≡ better → IsClearedAs state market outcome better
    by None e = none_counts outcome (stop_of outcome.mark) (counted_in state market) (IsMatch batch outcome) (matched batch budget) e
    by (Some better) e =
        let (m, found, more, unsettled) = finishable state.exchange.book market (batch_none state.exchange.book market accepted) in
        let judged = outcomes_are_judged_yes batch budget (batch_is_within state.exchange sound.kept market accepted) in
        let bound = better_bound state.exchange.book market m found state.kept sound.proved batch (batch_is state market m found) outcome judged better e in
        let proves = (proposals_are_decided batch better.proposal).proved (fraction_of better.bound) bound in
        is_better batch outcome (counted_in state market) better proves (matched batch budget) e

-- what takes the place of the run's outcome is better
pub better_is : (state : ProposingState) (market budget : ℕ) → IsSound state → refusal_of state.exchange (Clear market budget) ≡ None
    → (better : BoundedOutcome) → better_in state market budget ≡ Some better → IsBetter (batch_in state.exchange market) (reference_in state market budget) better
better_is state market budget sound accepted better is =
    subst (IsClearedAs state market (reference_in state market budget)) is (clears_are_proved state market budget sound accepted)

-- ---- it is never below that of the reference run
pub at_least : (outcome : Outcome) (run : Option StopReason) (best : Option Best) → AtMost (fraction_of outcome.claim.surplus) (charged_surplus outcome (bounded_where outcome run best))
at_least outcome None best = omega (arith, ints)
at_least outcome (Some stop) None = omega (arith, ints)
at_least outcome (Some stop) (Some kept) = not_below_match outcome stop kept

pub clears_are_at_least : ClearsAreAtLeast
clears_are_at_least state market budget =
    let outcome = reference_in state market budget in
    at_least outcome (stop_of outcome.mark) (counted_in state market)
