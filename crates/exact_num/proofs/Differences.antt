-- The order of two fractions is the sign of their difference.
use Rattle.std.proofs.Common.{◌≡◌, ℕ, ◌<◌, ℤ, pos, ◌+ℤ◌, ◌*ℤ◌, arith, sym, ◌∙◌, ap}
use Rattle.std.specs.Prelude.{Ok}
use Rattle.std.specs.Ordering.{int_cmp}
use Rattle.std.proofs.lemmas.Int.{ints}
use Rattle.std.proofs.Math.Nat.{mul-pos}
use Rattle.arithmetic.proofs.Integers.{neg_ℤ-*ℤ}
use Rattle.arithmetic.proofs.Comparisons.{int_cmp-mul, int_cmp-sub}
use Rattle.exact_num.specs.Fraction.{Fraction, IsLowest, IsSameValue, negated, plain_sum, fraction_cmp}
use Rattle.exact_num.specs.Fits.{add_of, sub_of, sum_value, sum_fits}
use Rattle.exact_num.proofs.Values.{sum_is, sum_is_lowest, negated_is_lowest}
use Rattle.exact_num.proofs.Answered.{answer_is}

-- by the difference without a limit
pub cmp_is_sign : (x y : Fraction) → fraction_cmp x y ≡ int_cmp (plain_sum x (negated y)).numerator (pos 0)
cmp_is_sign x y =
    sym (int_cmp-sub (x.numerator *ℤ pos y.denominator) (y.numerator *ℤ pos x.denominator))
    ∙ ap (λ (z : ℤ). int_cmp (x.numerator *ℤ pos y.denominator +ℤ z) (pos 0)) (sym (neg_ℤ-*ℤ y.numerator (pos x.denominator)))

zero_times : (n : ℕ) → pos 0 *ℤ pos n ≡ pos 0
zero_times n = omega (arith, ints)

-- equal values have one sign
pub same_sign : (x y : Fraction) → 0 < x.denominator → 0 < y.denominator → IsSameValue x y → int_cmp x.numerator (pos 0) ≡ int_cmp y.numerator (pos 0)
same_sign x y p q e =
    sym (int_cmp-mul x.numerator (pos 0) y.denominator q)
    ∙ ap (λ (z : ℤ). int_cmp z (pos 0 *ℤ pos y.denominator)) e
    ∙ ap (int_cmp (y.numerator *ℤ pos x.denominator)) (zero_times y.denominator ∙ sym (zero_times x.denominator))
    ∙ int_cmp-mul y.numerator (pos 0) x.denominator p

-- by the difference with a limit, where it fits
pub cmp_of_difference : (limit : ℕ) (x y d : Fraction) → IsLowest x → IsLowest y → sub_of limit x y ≡ Ok d → fraction_cmp x y ≡ int_cmp d.numerator (pos 0)
unfolding add_of
cmp_of_difference limit x y d p q h =
    let e : sum_value x (negated y) ≡ d = (answer_is (sum_fits limit x (negated y)) (sum_value x (negated y)) d _ h).value in
    let low : IsLowest (sum_value x (negated y)) = sum_is_lowest x (negated y) p (negated_is_lowest y q) in
    cmp_is_sign x y
    ∙ sym (same_sign (sum_value x (negated y)) (plain_sum x (negated y)) low.positive (mul-pos p.positive q.positive) (sum_is x (negated y)))
    ∙ ap (λ (f : Fraction). int_cmp f.numerator (pos 0)) e
