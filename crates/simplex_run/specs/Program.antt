-- A linear program: maximise costs · x under A x <= right sides and x >= 0.
use Rattle.std.specs.Prelude.{ℕ, ◌+◌, ◌*◌, List, take, drop}
use Rattle.exact_num.specs.Fraction.{Fraction}
use Rattle.simplex_run.specs.Places.{at, values_at}

-- the coefficients of A stand row by row
pub record LinearProgram : Type 0 where
  pub variables : ℕ
  pub rows : ℕ
  pub coefficients : List Fraction
  pub right_sides : List Fraction
  pub costs : List Fraction

-- the coefficients of row i, and those of variable j
abbrev pub row : LinearProgram → ℕ → List Fraction
row p i = take p.variables (drop (i * p.variables) p.coefficients)

abbrev pub column : LinearProgram → ℕ → List Fraction
column p j = values_at (λ i. at p.coefficients (i * p.variables + j)) 0 p.rows
