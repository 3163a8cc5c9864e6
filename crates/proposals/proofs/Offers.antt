-- What is kept does not get worse, and stays proved.
use Rattle.std.proofs.Common.{◌≡◌, Bool, true, false, if◌then◌else◌, arith, pos, ◌*ℤ◌, refl}
use Rattle.std.specs.Prelude.{IfSome, None, Some}
use Rattle.std.proofs.lemmas.Int.{ints}
use Rattle.arithmetic.proofs.Tests.{int_le-no}
use Rattle.exact_num.specs.Fraction.{AtMost}
use Rattle.exact_num.specs.Tests.{is_at_most}
use Rattle.frac.specs.Value.{fraction_of}
use Rattle.form.specs.declared.orders.Batch.{Batch}
use Rattle.proposal_check.proofs.Proposals.{halves_join}
use Rattle.proposals.specs.declared.best.CoveredFills.{CoveredFills}
use Rattle.proposals.specs.declared.best.BoundedMeasure.{BoundedMeasure}
use Rattle.proposals.specs.declared.best.Best.{Best}
use Rattle.proposals.specs.Best.{are_same_orders, surplus_of, best_of, joined}
use Rattle.proposals.specs.Laws.{IsNoWorse, OffersLoseNothing, as_proposal, IsProvedBest, OffersStayProved}

-- the greater surplus, and the lesser bound
fills_no_worse : (kept new : CoveredFills) (t : Bool) → is_at_most (surplus_of new) (surplus_of kept) ≡ t → AtMost (surplus_of kept) (surplus_of (if t then kept else new))
fills_no_worse kept new true e = omega (arith, ints)
fills_no_worse kept new false e =
    let x = surplus_of new in
    let y = surplus_of kept in
    int_le-no (x.numerator *ℤ pos y.denominator) (y.numerator *ℤ pos x.denominator) e

measure_no_worse : (kept new : BoundedMeasure) (t : Bool) → is_at_most (fraction_of kept.bound) (fraction_of new.bound) ≡ t
    → AtMost (fraction_of (if t then kept else new).bound) (fraction_of kept.bound)
measure_no_worse kept new true e = omega (arith, ints)
measure_no_worse kept new false e =
    let x = fraction_of kept.bound in
    let y = fraction_of new.bound in
    int_le-no (x.numerator *ℤ pos y.denominator) (y.numerator *ℤ pos x.denominator) e

joined_no_worse : (kept new : Best) → IsNoWorse kept (joined kept new)
joined_no_worse kept new = record {
  surplus = fills_no_worse kept.covered new.covered (is_at_most (surplus_of new.covered) (surplus_of kept.covered)) refl;
  bound = measure_no_worse kept.bounded new.bounded (is_at_most (fraction_of kept.bounded.bound) (fraction_of new.bounded.bound)) refl;
}

loses_nothing : (kept new : Best) (t : Bool) → IfSome (if t then Some kept else None) (λ best. IsNoWorse best (if t then joined kept new else new))
loses_nothing kept new true = joined_no_worse kept new
loses_nothing kept new false = tt

pub offers_lose_nothing : OffersLoseNothing
offers_lose_nothing None orders proposal bound = tt
offers_lose_nothing (Some kept) orders proposal bound = loses_nothing kept (best_of orders proposal bound) (are_same_orders kept.orders orders)

-- each half from the one or the other
joined_proved : (batch : Batch) (kept new : Best) (s t : Bool) → IsProvedBest batch kept → IsProvedBest batch new
    → IsProvedBest batch (record { orders = kept.orders; covered = if s then kept.covered else new.covered; bounded = if t then kept.bounded else new.bounded })
joined_proved batch kept new true true h k = h
joined_proved batch kept new false false h k = k
joined_proved batch kept new true false h k = halves_join batch (as_proposal kept) (as_proposal new) (fraction_of kept.bounded.bound) (fraction_of new.bounded.bound) h k
joined_proved batch kept new false true h k = halves_join batch (as_proposal new) (as_proposal kept) (fraction_of new.bounded.bound) (fraction_of kept.bounded.bound) k h

after_proved : (batch : Batch) (kept new : Best) (t : Bool) → IfSome (if t then Some kept else None) (IsProvedBest batch) → IsProvedBest batch new → IsProvedBest batch (if t then joined kept new else new)
after_proved batch kept new true h k =
    joined_proved batch kept new (is_at_most (surplus_of new.covered) (surplus_of kept.covered)) (is_at_most (fraction_of kept.bounded.bound) (fraction_of new.bounded.bound)) h k
after_proved batch kept new false h k = k

pub offers_stay_proved : OffersStayProved
offers_stay_proved batch None orders proposal bound h k = k
offers_stay_proved batch (Some kept) orders proposal bound h k = after_proved batch kept (best_of orders proposal bound) (are_same_orders kept.orders orders) h k
