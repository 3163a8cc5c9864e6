-- What fits a limit is within it.
use Rattle.std.proofs.Common.{◌≡◌, ℕ, ◌≤◌, ℤ, unsigned_abs, sym, subst}
use Rattle.std.specs.Prelude.{Ok}
use Rattle.arithmetic.proofs.Integers.{unsigned_abs-neg}
use Rattle.exact_num.specs.declared.misfit.Operator.TheVariants as operator
use Rattle.exact_num.specs.Fraction.{Fraction, whole, negated}
use Rattle.exact_num.specs.Fits.{misfit, sum_fits, sum_value, add_of}
use Rattle.exact_num.specs.Laws.{IsWithin}
use Rattle.exact_num.proofs.Answered.{answer_is}
use Rattle.exact_num.proofs.Exactness.{sum_within}

pub whole_within : (l : ℕ) (v : ℤ) → 1 ≤ l → unsigned_abs v ≤ l → IsWithin l (whole v)
whole_within l v one low = record { above = low; below = one }

pub negated_within : (l : ℕ) (x : Fraction) → IsWithin l x → IsWithin l (negated x)
negated_within l x within = record { above = subst (λ n. n ≤ l) (sym (unsigned_abs-neg x.numerator)) within.above; below = within.below }

pub add_within : (l : ℕ) (x y s : Fraction) → add_of l x y ≡ Ok s → IsWithin l s
unfolding add_of
add_within l x y s e =
    let is = answer_is (sum_fits l x y) (sum_value x y) s (misfit operator.Add x y) e in
    subst (IsWithin l) is.value (sum_within l x y is.passed)
