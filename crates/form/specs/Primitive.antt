-- The primitive vector of a direction: whole entries that no number above 1 divides.
use Rattle.std.specs.Prelude.{ℕ, ◌-◌, ◌*◌, ◌/◌, ◌≡◌, ◌<◌, ◌≤◌, ◌≤ℤ◌, List, [], ◌∷◌, length, map, pos, unsigned_abs, Result, Ok}
use Rattle.std.specs.Int.{◌∣◌}
use Rattle.std.specs.List.{sum, All}
use Rattle.exact_num.specs.declared.misfit.Wide.{Wide}
use Rattle.exact_num.specs.Fraction.{Fraction, whole}
use Rattle.exact_num.specs.Fits.{mul_of, after}
use Rattle.exact_num.specs.Steps.{fold_steps}
use Rattle.exact_num.specs.CommonDenominator.{amounts_over}
use Rattle.arithmetic.specs.Gcd.{gcd}
use Rattle.form.specs.Vector.{positive_part, IsState}

-- the greatest number that divides each entry; 0 where all are 0
abbrev pub common_divisor : List ℕ → ℕ
common_divisor [] = 0
common_divisor (x ∷ z) = gcd x (common_divisor z)

-- each entry divided by it
abbrev pub primitive_vector : List ℕ → List ℕ
primitive_vector z = map (λ x. x / common_divisor z) z

-- 2 to 9 fractions that are not below 0, and not all 0
pub record IsDirection (fs : List Fraction) : Type 0 where
  pub some : 2 ≤ length fs
  pub few : length fs ≤ 9
  pub not_below_zero : All (λ (f : Fraction). pos 0 ≤ℤ f.numerator) fs
  pub not_all_zero : 0 < sum (map (λ (f : Fraction). positive_part f.numerator) fs)

-- D / gcd(D, d) times d, for the denominator d
abbrev pub multiple_with : ℕ → Fraction → Fraction → Result Fraction Wide
multiple_with limit D f =
    mul_of limit (whole (pos (unsigned_abs D.numerator / gcd (unsigned_abs D.numerator) f.denominator))) (whole (pos f.denominator))

-- the least common multiple of the denominators: each is taken into it in order
abbrev pub common_multiple_of : ℕ → List Fraction → Result Fraction Wide
common_multiple_of limit fs = fold_steps (multiple_with limit) (whole (pos 1)) fs

-- each fraction times D, in order
abbrev pub multiples_of : ℕ → Fraction → List Fraction → Result (List ℕ) Wide
multiples_of limit D [] = Ok []
multiples_of limit D (f ∷ fs) =
    after (mul_of limit f D) (λ p. after (multiples_of limit D fs) (λ z. Ok (positive_part p.numerator ∷ z)))

-- the primitive vector in the direction of fractions: each times the least common multiple of the
-- denominators, and then divided by what the entries have in common
unfoldable pub primitive_of : ℕ → List Fraction → Result (List ℕ) Wide
primitive_of limit fs = after (common_multiple_of limit fs) (λ D. after (multiples_of limit D fs) (λ z. Ok (primitive_vector z)))

-- y is the primitive vector of the direction of z
pub record IsPrimitiveOf (n : ℕ) (z y : List ℕ) : Type 0 where
  pub state : IsState n y
  pub no_common_divisor : common_divisor y ≡ 1
  pub factor_positive : 1 ≤ common_divisor z
  pub multiple : z ≡ map (λ x. common_divisor z * x) y

-- the primitive vector of a state is a state whose entries have no common divisor above 1, and the
-- state is a multiple of it
abbrev pub PrimitiveVectorsArePrimitive : Type 0
PrimitiveVectorsArePrimitive = (n : ℕ) (z : List ℕ) → IsState n z → IsPrimitiveOf n z (primitive_vector z)

-- each denominator divides m
abbrev pub IsCommonMultiple : List Fraction → ℕ → Type 0
IsCommonMultiple fs m = All (λ (f : Fraction). f.denominator ∣ m) fs

-- the least number above 0 that each denominator divides
pub record IsLeastMultiple (fs : List Fraction) (D : ℕ) : Type 0 where
  pub positive : 1 ≤ D
  pub multiple : IsCommonMultiple fs D
  pub least : (m : ℕ) → IsCommonMultiple fs m → D ∣ m

-- y is the primitive vector in the direction of the fractions: that of the whole numbers that stand
-- over the least common multiple of their denominators
pub record IsPrimitiveDirection (fs : List Fraction) (y : List ℕ) : Type 0 where
  pub denominator : ℕ
  pub least : IsLeastMultiple fs denominator
  pub primitive : IsPrimitiveOf (length fs - 1) (amounts_over denominator fs) y
