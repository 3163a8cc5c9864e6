-- No proposal lowers the surplus of a clear.
use Rattle.std.proofs.Common.{◌≡◌, ℕ, ◌<◌, List, Bool, true, false, if◌then◌else◌, Option, Some, None, refl, sym, ap, subst, arith, pos, ◌*ℤ◌}
use Rattle.std.specs.Prelude.{IfSome, ⊤}
use Rattle.std.proofs.lemmas.Int.{ints}
use Rattle.std.proofs.lemmas.Slice.Eq.{bytes_eq-Decides}
use Rattle.arithmetic.proofs.Integers.{*ℤ_cancel_le, *ℤ_mono_left}
use Rattle.arithmetic.proofs.Products.{products}
use Rattle.cert_check.specs.declared.outcome.Outcome.{Outcome}
use Rattle.proposal_check.specs.declared.covers.Proposal.{Proposal}
use Rattle.exact_num.specs.Fraction.{AtMost, Fraction}
use Rattle.exact_num.specs.Tests.{is_at_most}
use Rattle.frac.specs.Value.{fraction_of}
use Rattle.frac.specs.declared.frac128.Frac128.{Frac128}
use Rattle.proposal_text.specs.declared.replies.StopReason.{StopReason}
use Rattle.proposals.specs.Best.{after_offer, are_same_orders, best_for, best_of, better_fills, joined, surplus_of}
use Rattle.proposals.specs.declared.best.CoveredFills.{CoveredFills}
use Rattle.proposals.specs.Laws.{IsNoWorse}
use Rattle.proposals.specs.declared.best.Best.{Best}
use Rattle.proposals.proofs.Offers.{offers_lose_nothing}
use Rattle.proposal_lines.specs.KeptByMarket.{bounded_as}
use Rattle.proposal_lines.specs.Laws.{charged_surplus}
use Rattle.proposal_lines.proofs.Clearing.{at_least, bounded_has, bounded_where, is_below, is_most, not_below_kept, not_below_match}
use Rattle.proposal_lines.proofs.Kept.{offered_orders}

-- ---- the greater of what is kept, and an outcome
pub at_most_trans : (x y z : Fraction) → 0 < y.denominator → AtMost x y → AtMost y z → AtMost x z
at_most_trans x y z some first second =
    let one = *ℤ_mono_left z.denominator (x.numerator *ℤ pos y.denominator) (y.numerator *ℤ pos x.denominator) first in
    let two = *ℤ_mono_left x.denominator (y.numerator *ℤ pos z.denominator) (z.numerator *ℤ pos y.denominator) second in
    *ℤ_cancel_le y.denominator (x.numerator *ℤ pos z.denominator) (z.numerator *ℤ pos x.denominator) (omega (arith, some)) (omega (arith, ints, products, one, two))

abbrev pub charged_by : Outcome → Option StopReason → Option Best → Fraction
charged_by outcome run best = charged_surplus outcome (bounded_where outcome run best)

-- a greater surplus is charged where a lesser one was
greater : (outcome : Outcome) (run : Option StopReason) (old new : Best) → AtMost (surplus_of old.covered) (surplus_of new.covered)
    → AtMost (charged_by outcome run (Some old)) (charged_by outcome run (Some new))
greater outcome None old new le = omega (arith, ints)
greater outcome (Some stop) old new le =
    let charged : Fraction = fraction_of (bounded_as outcome stop new).proposal.claim.surplus in
    bounded_has outcome stop old (λ b. AtMost (fraction_of b.proposal.claim.surplus) charged) (λ is. not_below_match outcome stop new)
    (λ is. at_most_trans (surplus_of old.covered) (surplus_of new.covered) charged new.covered.claim.surplus.lowest.positive le (not_below_kept outcome stop new))

none_charged : (outcome : Outcome) (run : Option StopReason) → charged_by outcome run None ≡ fraction_of outcome.claim.surplus
none_charged outcome None = refl
none_charged outcome (Some stop) = refl

-- ---- what counts is no less
abbrev pub IsNoLess : Option Best → Option Best → Type 0
IsNoLess None new = ⊤
IsNoLess (Some old) None = ⊥
IsNoLess (Some old) (Some new) = AtMost (surplus_of old.covered) (surplus_of new.covered)

pub as_much : (best : Option Best) → IsNoLess best best
as_much None = tt
as_much (Some best) = omega (arith, ints)

pub charged_no_less : (outcome : Outcome) (run : Option StopReason) (old new : Option Best) → IsNoLess old new → AtMost (charged_by outcome run old) (charged_by outcome run new)
charged_no_less outcome run None new no_less = subst (λ x. AtMost x (charged_by outcome run new)) (sym (none_charged outcome run)) (at_least outcome run new)
charged_no_less outcome run (Some old) None no_less = absurd no_less
charged_no_less outcome run (Some old) (Some new) no_less = greater outcome run old new no_less

-- ---- a proposal that is taken in
-- of two kept fills with the new ones, the greater are no less where they were
fills_no_less : (old kept new : CoveredFills) → AtMost (surplus_of old) (surplus_of kept) → AtMost (surplus_of (better_fills old new)) (surplus_of (better_fills kept new))
fills_no_less old kept new le = by (is_at_most (surplus_of new) (surplus_of old)) refl (is_at_most (surplus_of new) (surplus_of kept)) refl
  where
    by : (s : Bool) → is_at_most (surplus_of new) (surplus_of old) ≡ s → (t : Bool) → is_at_most (surplus_of new) (surplus_of kept) ≡ t
        → AtMost (surplus_of (if s then old else new)) (surplus_of (if t then kept else new))
    by true a true b = le
    by true a false b = at_most_trans (surplus_of old) (surplus_of kept) (surplus_of new) kept.claim.surplus.lowest.positive le (is_below (surplus_of new) (surplus_of kept) b)
    by false a true b = is_most (surplus_of new) (surplus_of kept) b
    by false a false b = omega (arith, ints)

-- they are no less than the new ones
new_no_less : (kept new : CoveredFills) → AtMost (surplus_of new) (surplus_of (better_fills kept new))
new_no_less kept new = by (is_at_most (surplus_of new) (surplus_of kept)) refl
  where
    by : (t : Bool) → is_at_most (surplus_of new) (surplus_of kept) ≡ t → AtMost (surplus_of new) (surplus_of (if t then kept else new))
    by true is = is_most (surplus_of new) (surplus_of kept) is
    by false is = omega (arith, ints)

module _ (orders : List ℕ) (proposal : Proposal) (bound : Frac128) where
  abbrev after : Option Best → Best
  after kept = after_offer kept orders proposal bound

  abbrev new : Best
  new = best_of orders proposal bound

  pub no_less_than_new : (kept : Option Best) → AtMost (surplus_of new.covered) (surplus_of (after kept).covered)
  no_less_than_new None = omega (arith, ints)
  no_less_than_new (Some kept) =
      elim (are_same_orders kept.orders orders) as (λ t. AtMost (surplus_of new.covered) (surplus_of (if t then joined kept new else new).covered)) [
        | true ↦ new_no_less kept.covered new.covered
        | false ↦ omega (arith, ints)
      ]

  joined_no_less : (old : Best) (kept : Option Best) → IsNoLess (Some old) (best_for kept orders) → AtMost (surplus_of (joined old new).covered) (surplus_of (after kept).covered)
  joined_no_less old None no_less = absurd no_less
  joined_no_less old (Some kept) no_less =
      (elim (are_same_orders kept.orders orders) as (λ t. IsNoLess (Some old) (if t then Some kept else None)
      → AtMost (surplus_of (joined old new).covered) (surplus_of (if t then joined kept new else new).covered)) [
        | true ↦ λ le. fills_no_less old.covered kept.covered new.covered le
        | false ↦ λ no_less. absurd no_less
      ]) no_less

  -- what counts after it is no less where it was
  pub after_no_less : (one other : Option Best) → IsNoLess (best_for one orders) (best_for other orders) → AtMost (surplus_of (after one).covered) (surplus_of (after other).covered)
  after_no_less None other no_less = no_less_than_new other
  after_no_less (Some old) other no_less =
      (elim (are_same_orders old.orders orders) as (λ t. IsNoLess (if t then Some old else None) (best_for other orders)
      → AtMost (surplus_of (if t then joined old new else new).covered) (surplus_of (after other).covered)) [
        | true ↦ λ h. joined_no_less old other h
        | false ↦ λ h. no_less_than_new other
      ]) no_less

  -- it counts for just these orders
  pub after_counts : (kept : Option Best) → best_for (Some (after kept)) orders ≡ Some (after kept)
  after_counts kept =
      let same : are_same_orders (after kept).orders orders ≡ true = (bytes_eq-Decides (after kept).orders orders).1 (offered_orders kept orders proposal bound) in
      ap (λ b. if b then Some (after kept) else None) same

  -- and is no less than what counted
  pub after_no_worse : (kept : Option Best) → IsNoLess (best_for kept orders) (Some (after kept))
  after_no_worse kept = by (best_for kept orders) (offers_lose_nothing kept orders proposal bound)
    where
      by : (best : Option Best) → IfSome best (λ best. IsNoWorse best (after kept)) → IsNoLess best (Some (after kept))
      by None h = tt
      by (Some best) h = h.surplus
