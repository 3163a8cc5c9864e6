-- Fractions over a common denominator.
use Rattle.std.proofs.Common.{ℕ, ◌*◌, ◌≤◌, List, [], ◌∷◌, get_or, arith, ℤ, pos, ◌+ℤ◌, ◌*ℤ◌, ◌≤ℤ◌, All, ap}
use Rattle.std.proofs.lemmas.Int.{ints}
use Rattle.std.proofs.lemmas.List.Elements.{All-cons, All-head, All-nil, All-tail}
use Rattle.std.specs.Int.{◌∣◌}
use native.Mathlib.Nat.{mul-le-mul_left, dvd-mul_right, dvd-mul_left_of_dvd, mul-div_cancel'}
use Rattle.arithmetic.proofs.Integers.{*ℤ_mono, *ℤ_cancel, *ℤ_cancel_le}
use Rattle.arithmetic.proofs.Products.{products}
use Rattle.exact_num.specs.Fraction.{Fraction, IsDefined, IsSameValue, AtMost, plain_sum}
use Rattle.exact_num.specs.CommonDenominator.{common_denominator, amount_over, IsRatio, EachIsItsAmount}

pub defined_product : (a b : Fraction) → IsDefined a → IsDefined b → 1 ≤ a.denominator * b.denominator
defined_product a b p q = omega (arith, p, mul-le-mul_left a.denominator q)

-- c has the value of a + b
pub is_ratio_sum : (a b c : Fraction) (x y : ℤ) (F : ℕ) → IsDefined a → IsDefined b → IsSameValue c (plain_sum a b) → IsRatio a x F → IsRatio b y F → IsRatio c (x +ℤ y) F
is_ratio_sum a b c x y F p q s ra rb =
    *ℤ_cancel (a.denominator * b.denominator) (c.numerator *ℤ pos F) ((x +ℤ y) *ℤ pos c.denominator) (defined_product a b p q)
    (omega (
      arith,
      ints,
      products,
      ap (λ w. w *ℤ pos F) s,
      ap (λ w. w *ℤ pos (b.denominator * c.denominator)) ra,
      ap (λ w. w *ℤ pos (a.denominator * c.denominator)) rb,
    ))

-- an order between fractions is the one between what stands over F
pub at_most_from : (a b : Fraction) (x y : ℤ) (F : ℕ) → 1 ≤ F → IsRatio a x F → IsRatio b y F → x ≤ℤ y → AtMost a b
at_most_from a b x y F one ra rb h =
    *ℤ_cancel_le F (a.numerator *ℤ pos b.denominator) (b.numerator *ℤ pos a.denominator) one
    (omega (arith, ints, products, ap (λ w. w *ℤ pos b.denominator) ra, ap (λ w. w *ℤ pos a.denominator) rb, *ℤ_mono (a.denominator * b.denominator) x y h))

pub at_most_to : (a b : Fraction) (x y : ℤ) (F : ℕ) → IsDefined a → IsDefined b → IsRatio a x F → IsRatio b y F → AtMost a b → x ≤ℤ y
at_most_to a b x y F p q ra rb h =
    *ℤ_cancel_le (a.denominator * b.denominator) x y (defined_product a b p q)
    (omega (arith, ints, products, ap (λ w. w *ℤ pos b.denominator) ra, ap (λ w. w *ℤ pos a.denominator) rb, *ℤ_mono F (a.numerator *ℤ pos b.denominator) (b.numerator *ℤ pos a.denominator) h))

pub same_from : (a b : Fraction) (x : ℤ) (F : ℕ) → 1 ≤ F → IsRatio a x F → IsRatio b x F → IsSameValue a b
same_from a b x F one ra rb =
    *ℤ_cancel F (a.numerator *ℤ pos b.denominator) (b.numerator *ℤ pos a.denominator) one
    (omega (arith, ints, products, ap (λ w. w *ℤ pos b.denominator) ra, ap (λ w. w *ℤ pos a.denominator) rb))

pub common_positive : (fs : List Fraction) → All IsDefined fs → 1 ≤ common_denominator fs
common_positive [] h = omega arith
common_positive (f ∷ fs) h = omega (arith, All-head IsDefined f fs h, mul-le-mul_left f.denominator (common_positive fs (All-tail IsDefined f fs h)))

pub divides : (fs : List Fraction) → All (λ f. f.denominator ∣ common_denominator fs) fs
divides [] = All-nil _
divides (f ∷ fs) =
    All-cons (λ g. g.denominator ∣ f.denominator * common_denominator fs) f fs (dvd-mul_right f.denominator (common_denominator fs))
    (λ k d lt. dvd-mul_left_of_dvd _ (divides fs k d lt) f.denominator)

pub amount_is_exact : (F : ℕ) (f : Fraction) → f.denominator ∣ F → IsRatio f (amount_over F f) F
amount_is_exact F f h = let e = mul-div_cancel' f.denominator h in omega (arith, ints, products, ap (λ n. f.numerator *ℤ pos n) e)

pub each_is_its_amount : EachIsItsAmount
each_is_its_amount fs h = (common_positive fs h, λ k d lt. amount_is_exact (common_denominator fs) (get_or fs k d) (divides fs k d lt))
