-- The four operations with a limit: the value or none, and the value or the misfit with its operands.
use Rattle.std.specs.Prelude.{ℕ, ◌*◌, ◌/◌, ℤ, pos, negsuc, ◌+ℤ◌, ◌*ℤ◌, neg_ℤ, unsigned_abs, int_div, Bool, ◌&&◌, nat_le, if◌then◌else◌, Option, Some, None, Result, Ok, Err}
use Rattle.arithmetic.specs.Gcd.{gcd_within, gcd}
use Rattle.exact_num.specs.declared.misfit.Operator.{Operator}
use Rattle.exact_num.specs.declared.misfit.Operator.TheVariants.{Add, Mul, Div, Whole}
use Rattle.exact_num.specs.declared.misfit.Wide.{Wide}
use Rattle.exact_num.specs.Fraction.{Fraction, whole, negated, reduced, over}

-- the size of v is at most the limit
abbrev pub size_fits : ℕ → ℤ → Bool
size_fits limit v = nat_le (unsigned_abs v) limit

abbrev pub parts_of : Fraction → ℤ × ℤ
parts_of x = (x.numerator, pos x.denominator)

abbrev pub misfit : Operator → Fraction → Fraction → Wide
misfit operator left right = record { operator = operator; left = record { 0 = left.numerator; 1 = pos left.denominator }; right = record { 0 = right.numerator; 1 = pos right.denominator } }

-- ---- the sum: with g the divisor of both denominators
unfoldable pub sum_divisor : Fraction → Fraction → ℕ
sum_divisor x y = gcd x.denominator y.denominator

unfoldable pub sum_left : Fraction → Fraction → ℤ
sum_left x y = x.numerator *ℤ pos (y.denominator / sum_divisor x y)

unfoldable pub sum_right : Fraction → Fraction → ℤ
sum_right x y = y.numerator *ℤ pos (x.denominator / sum_divisor x y)

unfoldable pub sum_total : Fraction → Fraction → ℤ
sum_total x y = sum_left x y +ℤ sum_right x y

-- what the total has in common with g
unfoldable pub sum_common : Fraction → Fraction → ℕ
sum_common x y = gcd (unsigned_abs (sum_total x y)) (sum_divisor x y)

unfoldable pub sum_below : Fraction → Fraction → ℕ
sum_below x y = (x.denominator / sum_divisor x y) * (y.denominator / sum_common x y)

unfoldable pub sum_value : Fraction → Fraction → Fraction
sum_value x y = over (int_div (sum_total x y) (pos (sum_common x y))) (sum_below x y)

unfoldable pub sum_fits : ℕ → Fraction → Fraction → Bool
sum_fits limit x y = size_fits limit (sum_left x y) && size_fits limit (sum_right x y) && size_fits limit (sum_total x y) && nat_le (sum_below x y) limit

abbrev pub sum_within : ℕ → Fraction → Fraction → Option Fraction
sum_within limit x y = if sum_fits limit x y then Some (sum_value x y) else None

unfoldable pub add_of : ℕ → Fraction → Fraction → Result Fraction Wide
add_of limit x y = if sum_fits limit x y then Ok (sum_value x y) else Err (misfit Add x y)

abbrev pub sub_of : ℕ → Fraction → Fraction → Result Fraction Wide
sub_of limit x y = add_of limit x (negated y)

-- ---- the product: each numerator without what it has in common with the other denominator
unfoldable pub product_above : Fraction → Fraction → ℤ
product_above x y =
    int_div x.numerator (pos (gcd (unsigned_abs x.numerator) y.denominator)) *ℤ int_div y.numerator (pos (gcd (unsigned_abs y.numerator) x.denominator))

unfoldable pub product_below : Fraction → Fraction → ℕ
product_below x y =
    (x.denominator / gcd (unsigned_abs y.numerator) x.denominator) * (y.denominator / gcd (unsigned_abs x.numerator) y.denominator)

unfoldable pub product_value : Fraction → Fraction → Fraction
product_value x y = over (product_above x y) (product_below x y)

unfoldable pub product_fits : ℕ → Fraction → Fraction → Bool
product_fits limit x y = size_fits limit (product_above x y) && nat_le (product_below x y) limit

abbrev pub product_within : ℕ → Fraction → Fraction → Option Fraction
product_within limit x y = if product_fits limit x y then Some (product_value x y) else None

unfoldable pub mul_of : ℕ → Fraction → Fraction → Result Fraction Wide
mul_of limit x y = if product_fits limit x y then Ok (product_value x y) else Err (misfit Mul x y)

-- ---- the quotient, at a divisor that is not 0: the product with the inverse, whose sign goes to the numerator
abbrev pub signed_by : ℤ → ℤ → ℤ
signed_by (pos n) z = z
signed_by (negsuc n) z = neg_ℤ z

unfoldable pub inverse : Fraction → Fraction
inverse x = over (signed_by x.numerator (pos x.denominator)) (unsigned_abs x.numerator)

unfoldable pub div_of : ℕ → Fraction → Fraction → Result Fraction Wide
div_of limit x y = if product_fits limit x (inverse y) then Ok (product_value x (inverse y)) else Err (misfit Div x y)

-- ---- the number itself
abbrev pub whole_within : ℕ → ℤ → Option Fraction
whole_within limit v = if size_fits limit v then Some (whole v) else None

unfoldable pub whole_of : ℕ → ℤ → Result Fraction Wide
whole_of limit v = if size_fits limit v then Ok (whole v) else Err (misfit Whole (whole v) (whole (pos 0)))

-- ---- steps one after another
-- the next step at the value, or the first misfit
abbrev pub after : {A B : Type 0} → Result A Wide → (A → Result B Wide) → Result B Wide
after (Ok a) next = next a
after (Err w) next = Err w

-- f at the value, or the misfit
abbrev pub meaning : {A B : Type 0} → (A → B) → Result A Wide → Result B Wide
meaning f (Ok a) = Ok (f a)
meaning f (Err w) = Err w

-- opens all these definitions, for a proof that computes with numerals
unfoldable pub operations : Unit {0}
unfolding gcd_within gcd reduced sum_divisor sum_left sum_right sum_total sum_common sum_below sum_value sum_fits add_of product_above product_below product_value product_fits mul_of inverse div_of whole_of
operations = tt

-- what a call that writes in place leaves: the value at the end, or the misfit
abbrev pub written_back : {T A : Type 0} → Result T Wide → A → Result A Wide
written_back (Ok t) value = Ok value
written_back (Err w) value = Err w
