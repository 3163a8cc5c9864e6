-- A line whose check holds is covered, and one whose check fails is not.
use Rattle.std.proofs.Common.{◌≡◌, ℕ, inl, inr, Bool, true, false, List, ◌∷◌, length, zip, arith, ℤ, pos, neg_ℤ, ◌+ℤ◌, ◌*ℤ◌, All, Ok, ap, subst, ◌∙◌}
use Rattle.std.specs.Prelude.{◌↔◌}
use Rattle.std.proofs.lemmas.Int.{ints}
use Rattle.std.proofs.lemmas.List.Elements.{All-cons, All-head, All-tail}
use Rattle.std.proofs.lemmas.List.{length-map}
use mathlib.Core.Bool.{not}
use Rattle.exact_num.specs.Fraction.{Fraction, IsLowest, whole}
use Rattle.exact_num.specs.CommonDenominator.{common_denominator, amount_over, signed_amounts_over}
use Rattle.exact_num.specs.Steps.{all_of, less_product}
use Rattle.exact_num.specs.Tests.{is_above_zero}
use Rattle.exact_num.proofs.After.{after_value}
use Rattle.exact_num.proofs.Fractions.{common_positive}
use Rattle.exact_num.proofs.Loops.{both, not_both}
use Rattle.exact_num.proofs.LowestRatios.{IsLowestRatio, amounts_stand, less_stands, not_above, is_above}
use Rattle.exact_num.proofs.Tested.{all_hold, not_all_hold, lowest_are_defined}
use Rattle.form.specs.declared.orders.Order.{Order}
use Rattle.form.specs.Payoff.{bundle_of, bundle_payoff, scale_of}
use Rattle.form.specs.Steps.{add_for_side, bundle_payoff_of}
use Rattle.form.proofs.LegSteps.{bundle_payoffs_are_exact}
use Rattle.clearing_model.specs.Clearing.{for_side, signed_net}
use Rattle.clearing_model.specs.Line.{HoldsAtBreaks}
use Rattle.clearing_model.specs.Certificate.{signed_over}
use Rattle.line_cover.specs.Net.{add_payoff, net_of, excess}
use Rattle.line_cover.specs.Line.{breakpoints_of, holds_at}
use Rattle.line_cover.specs.Breakpoints.{first_state, last_state, HoldsAtState}
use Rattle.line_cover.specs.Laws.{LinesThatHoldClose, LinesThatFailDoNotClose}
use Rattle.line_cover.proofs.Fills.{side_stands, fills_stand}
use Rattle.line_cover.proofs.LineStates.{breaks_are, orders_of_fills}

-- the step for a fill adds what its bundle pays
pub payoff_adds : (limit D : ℕ) (z : List ℕ) (o : Order) (a : Fraction) (y : ℤ) → IsLowestRatio a y D → (start s : Fraction) (x : ℤ) → IsLowestRatio start x D → add_payoff limit z start (o, a) ≡ Ok s
    → IsLowestRatio s (x +ℤ for_side o.side (bundle_payoff (bundle_of o) z *ℤ y)) D
payoff_adds limit D z o a y sa start s x st h =
    let pays = after_value (bundle_payoff_of limit (bundle_of o) z) (λ p. add_for_side limit start o.side a p) s h in
    let is = bundle_payoffs_are_exact limit (bundle_of o) z pays.value pays.first in
    side_stands limit o.side start a s (bundle_payoff (bundle_of o) z) x y D st sa (rw (← is) pays.rest)

turned : (t answer : Bool) → not t ≡ answer → t ≡ not answer
turned true answer h = ap not h
turned false answer h = ap not h

-- what the check at a state computes
record Excess (os : List Order) (fs : List Fraction) (L : Fraction) (z : List ℕ) (answer : Bool) : Type 0 where
  value : Fraction
  stands : (let D = common_denominator (L ∷ fs) in IsLowestRatio value (signed_net (signed_over D os fs) z +ℤ neg_ℤ (amount_over D L *ℤ pos (scale_of z))) D)
  test : is_above_zero value ≡ not answer

excess_at : (limit : ℕ) (os : List Order) (fs : List Fraction) (L : Fraction) (z : List ℕ) (answer : Bool) → All IsLowest (L ∷ fs)
    → holds_at limit (zip os fs) L z ≡ Ok answer → Excess os fs L z answer
excess_at limit os fs L z answer low h =
    let D = common_denominator (L ∷ fs) in
    let P : Fraction → Type 0 = λ a. IsLowestRatio a (amount_over D a) D in
    let stand = amounts_stand (L ∷ fs) low in
    let outer = after_value (excess limit (zip os fs) L z) (λ e. Ok (not (is_above_zero e))) answer h in
    let inner = after_value (net_of limit (zip os fs) z) (λ net. less_product limit net L (whole (pos (scale_of z)))) outer.value outer.first in
    let net = fills_stand D (add_payoff limit z) (λ o. bundle_payoff (bundle_of o) z) (λ o a sa. payoff_adds limit D z o a (amount_over D a) sa) os fs inner.value (All-tail P L fs stand) inner.first in
    let answers : not (is_above_zero outer.value) ≡ answer = cc in
    record {
      value = outer.value;
      stands = less_stands limit inner.value L outer.value (pos (scale_of z)) _ _ D net (All-head P L fs stand) inner.rest;
      test = turned (is_above_zero outer.value) answer answers;
    }

-- the fills and the liability over their common denominator
abbrev Holds : List Order → List Fraction → Fraction → List ℕ → Type 0
Holds os fs L = let D = common_denominator (L ∷ fs) in HoldsAtState (signed_over D os fs) (amount_over D L)

holds_here : (limit : ℕ) (os : List Order) (fs : List Fraction) (L : Fraction) (z : List ℕ) → All IsLowest (L ∷ fs)
    → holds_at limit (zip os fs) L z ≡ Ok true → Holds os fs L z
holds_here limit os fs L z low h =
    let e = excess_at limit os fs L z true low h in
    omega (arith, ints, not_above e.value _ (common_denominator (L ∷ fs)) e.stands e.test)

fails_here : (limit : ℕ) (os : List Order) (fs : List Fraction) (L : Fraction) (z : List ℕ) → All IsLowest (L ∷ fs)
    → holds_at limit (zip os fs) L z ≡ Ok false → Holds os fs L z → ⊥
fails_here limit os fs L z low h held =
    let e = excess_at limit os fs L z false low h in
    omega (arith, ints, is_above e.value _ (common_denominator (L ∷ fs)) (common_positive (L ∷ fs) (lowest_are_defined (L ∷ fs) low)) e.stands e.test)

-- the breakpoints of the orders of fills
breaks_of_fills : (os : List Order) (fs : List Fraction) (L : Fraction) → length fs ≡ length os
    → (let D = common_denominator (L ∷ fs) in All (Holds os fs L) (breakpoints_of os) ↔ All (HoldsAtBreaks (signed_over D os fs) (amount_over D L)) (signed_over D os fs))
breaks_of_fills os fs L len =
    let D = common_denominator (L ∷ fs) in
    subst (λ orders. All (Holds os fs L) (breakpoints_of orders) ↔ All (HoldsAtBreaks (signed_over D os fs) (amount_over D L)) (signed_over D os fs))
    (orders_of_fills os (signed_amounts_over D fs) (length-map fs (amount_over D) ∙ len))
    (breaks_are (signed_over D os fs) (amount_over D L) (signed_over D os fs))

pub lines_that_hold_close : LinesThatHoldClose
lines_that_hold_close limit os fs L len low lowest h =
    let all = All-cons IsLowest L fs lowest low in
    let breaks = breakpoints_of os in
    let first = both (holds_at limit (zip os fs) L first_state) _ h in
    let next = both (all_of (holds_at limit (zip os fs) L) breaks) _ first.1 in (
      holds_here limit os fs L first_state all first.0,
      holds_here limit os fs L last_state all next.1,
      (breaks_of_fills os fs L len).0 (all_hold (holds_at limit (zip os fs) L) (Holds os fs L) (λ z. holds_here limit os fs L z all) breaks next.0),
    )

pub lines_that_fail_do_not_close : LinesThatFailDoNotClose
lines_that_fail_do_not_close limit os fs L len low lowest h closes =
    let all = All-cons IsLowest L fs lowest low in
    let breaks = breakpoints_of os in
    elim (not_both (holds_at limit (zip os fs) L first_state) _ h) [
      | inl first ↦ fails_here limit os fs L first_state all first closes.0
      | inr rest ↦
          elim (not_both (all_of (holds_at limit (zip os fs) L) breaks) _ rest.1) [
            | inl next ↦ not_all_hold (holds_at limit (zip os fs) L) (Holds os fs L) (λ z. fails_here limit os fs L z all) breaks next ((breaks_of_fills os fs L len).1 closes.2)
            | inr last ↦ fails_here limit os fs L last_state all last.1 closes.1
          ]
    ]
