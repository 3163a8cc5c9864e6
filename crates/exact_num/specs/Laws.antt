-- Laws of fractions and of their operations with a limit.
use Rattle.std.specs.Prelude.{◌≡◌, ◌≢◌, ℕ, ◌≤◌, pos, unsigned_abs, Ok, ◌↔◌}
use Rattle.std.specs.declared.cmp.Ordering.TheVariants.{Less, Equal}
use Rattle.std.specs.Ordering.{int_cmp, ordering_reverse}
use Rattle.exact_num.specs.Fraction.{Fraction, IsLowest, IsSameValue, whole, negated, plain_sum, plain_product, fraction_cmp}
use Rattle.exact_num.specs.Fits.{add_of, sub_of, mul_of, div_of}

-- numerator and denominator are at most the limit in size
pub record IsWithin (limit : ℕ) (x : Fraction) : Type 0 where
  pub above : unsigned_abs x.numerator ≤ limit
  pub below : x.denominator ≤ limit

-- s is the value in lowest terms, within the limit
pub record IsExactly (limit : ℕ) (s value : Fraction) : Type 0 where
  pub lowest : IsLowest s
  pub within : IsWithin limit s
  pub same : IsSameValue s value

abbrev pub SumsAreExact : Type 0
SumsAreExact = (limit : ℕ) (x y s : Fraction) → IsLowest x → IsLowest y → add_of limit x y ≡ Ok s → IsExactly limit s (plain_sum x y)

abbrev pub DifferencesAreExact : Type 0
DifferencesAreExact = (limit : ℕ) (x y s : Fraction) → IsLowest x → IsLowest y → sub_of limit x y ≡ Ok s → IsExactly limit s (plain_sum x (negated y))

abbrev pub ProductsAreExact : Type 0
ProductsAreExact = (limit : ℕ) (x y s : Fraction) → IsLowest x → IsLowest y → mul_of limit x y ≡ Ok s → IsExactly limit s (plain_product x y)

-- the quotient is in lowest terms within the limit, and times the divisor it is the dividend
pub record IsQuotient (limit : ℕ) (x y s : Fraction) : Type 0 where
  pub lowest : IsLowest s
  pub within : IsWithin limit s
  pub same : IsSameValue (plain_product s y) x

abbrev pub QuotientsAreExact : Type 0
QuotientsAreExact = (limit : ℕ) (x y s : Fraction) → IsLowest x → IsLowest y → y.numerator ≢ pos 0 → div_of limit x y ≡ Ok s → IsQuotient limit x y s

-- an operand 0 always fits
pub record ZeroFits (limit : ℕ) (x : Fraction) : Type 0 where
  pub plus_zero : add_of limit x (whole (pos 0)) ≡ Ok x
  pub zero_plus : add_of limit (whole (pos 0)) x ≡ Ok x
  pub less_zero : sub_of limit x (whole (pos 0)) ≡ Ok x
  pub zero_less : sub_of limit (whole (pos 0)) x ≡ Ok (negated x)
  pub times_zero : mul_of limit x (whole (pos 0)) ≡ Ok (whole (pos 0))
  pub zero_times : mul_of limit (whole (pos 0)) x ≡ Ok (whole (pos 0))
  pub zero_over : x.numerator ≢ pos 0 → div_of limit (whole (pos 0)) x ≡ Ok (whole (pos 0))

abbrev pub ZeroAlwaysFits : Type 0
ZeroAlwaysFits = (limit : ℕ) (x : Fraction) → 1 ≤ limit → IsLowest x → IsWithin limit x → ZeroFits limit x

-- so do the operand 1 of a product, a divisor 1, and equal operands of a difference
pub record OneFits (limit : ℕ) (x : Fraction) : Type 0 where
  pub times_one : mul_of limit x (whole (pos 1)) ≡ Ok x
  pub one_times : mul_of limit (whole (pos 1)) x ≡ Ok x
  pub over_one : div_of limit x (whole (pos 1)) ≡ Ok x
  pub less_itself : sub_of limit x x ≡ Ok (whole (pos 0))
  pub over_itself : x.numerator ≢ pos 0 → div_of limit x x ≡ Ok (whole (pos 1))

abbrev pub OneAlwaysFits : Type 0
OneAlwaysFits = (limit : ℕ) (x : Fraction) → 1 ≤ limit → IsLowest x → IsWithin limit x → OneFits limit x

-- the order is that of the values: total, and the sign of the difference
pub record IsOrder : Type 0 where
  pub equal : (x y : Fraction) → IsLowest x → IsLowest y → (fraction_cmp x y ≡ Equal) ↔ (x ≡ y)
  pub reverse : (x y : Fraction) → fraction_cmp x y ≡ ordering_reverse (fraction_cmp y x)
  pub transitive : (x y z : Fraction) → IsLowest x → IsLowest y → IsLowest z → fraction_cmp x y ≡ Less → fraction_cmp y z ≡ Less → fraction_cmp x z ≡ Less
  pub sign : (limit : ℕ) (x y d : Fraction) → IsLowest x → IsLowest y → sub_of limit x y ≡ Ok d → fraction_cmp x y ≡ int_cmp d.numerator (pos 0)
