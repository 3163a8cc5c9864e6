-- What the end of a run says of its program. Sums and products have no limit here.
use Rattle.std.specs.Prelude.{◌≡◌, ℕ, ◌*◌, ◌<◌, List, length, pos, ◌<ℤ◌}
use Rattle.exact_num.specs.Fraction.{Fraction, IsLowest, IsSameValue, AtMost, negated, plain_sum, plain_dot, IsNotBelowZero}
use Rattle.simplex_run.specs.Places.{at, fraction_zero}
use Rattle.simplex_run.specs.Program.{LinearProgram, row, column}
use Rattle.simplex_run.specs.Ending.{Ending, done, unbounded, wide_at, no_unit_left}
use Rattle.simplex_run.specs.Run.{Optimum, run, optimum}

-- a list of n fractions in lowest terms
pub record AreFractions (n : ℕ) (xs : List Fraction) : Type 0 where
  pub count : length xs ≡ n
  pub lowest : (j : ℕ) → IsLowest (at xs j)

-- the same, with none below 0
pub record AreNotBelowZero (n : ℕ) (xs : List Fraction) : Type 0 where
  pub count : length xs ≡ n
  pub lowest : (j : ℕ) → IsLowest (at xs j)
  pub sign : (j : ℕ) → IsNotBelowZero (at xs j)

-- A has as many rows of as many fractions as it says, and no right side is below 0
pub record IsProgram (p : LinearProgram) : Type 0 where
  pub coefficients : AreFractions (p.rows * p.variables) p.coefficients
  pub right_sides : AreNotBelowZero p.rows p.right_sides
  pub costs : AreFractions p.variables p.costs

-- x is feasible, y is a feasible dual with the reduced costs yA - c, and both earn the value
pub record IsOptimum (p : LinearProgram) (x y reduced : List Fraction) (value : Fraction) : Type 0 where
  pub x_sign : AreNotBelowZero p.variables x
  pub y_sign : AreNotBelowZero p.rows y
  pub reduced_sign : AreNotBelowZero p.variables reduced
  pub value_lowest : IsLowest value
  pub holds : (i : ℕ) → i < p.rows → AtMost (plain_dot (row p i) x) (at p.right_sides i)
  pub reduced_is : (j : ℕ) → j < p.variables
      → IsSameValue (at reduced j) (plain_sum (plain_dot (column p j) y) (negated (at p.costs j)))
  pub earns : IsSameValue (plain_dot p.costs x) value
  pub owes : IsSameValue (plain_dot p.right_sides y) value

-- d >= 0, A d <= 0 and c · d > 0: along d the objective rises without an end
pub record IsDirection (p : LinearProgram) (d : List Fraction) : Type 0 where
  pub sign : AreNotBelowZero p.variables d
  pub holds : (i : ℕ) → i < p.rows → AtMost (plain_dot (row p i) d) fraction_zero
  pub earns : pos 0 <ℤ (plain_dot p.costs d).numerator

-- the end is what it says of the program
abbrev pub IsAsSaid : LinearProgram → Ending Optimum → Type 0
IsAsSaid p (done (optimum x y reduced value) units) = IsOptimum p x y reduced value
IsAsSaid p (unbounded d units) = IsDirection p d
IsAsSaid p (wide_at units wide) = Unit {0}
IsAsSaid p (no_unit_left units) = Unit {0}

-- each run ends as it says
abbrev pub EndsAreAsSaid : Type 0
EndsAreAsSaid =
    (limit : ℕ) (p : LinearProgram) (left spent : ℕ) → IsProgram p → IsAsSaid p (run limit p left spent)
