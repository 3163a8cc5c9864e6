-- How many units are enough: as many as there are ways to choose the basic variables.
use Rattle.std.specs.Prelude.{◌≡◌, ℕ, zero, suc, ◌+◌, ◌<◌}
use Rattle.simplex_run.specs.Program.{LinearProgram}
use Rattle.simplex_run.specs.Ending.{no_unit_left}
use Rattle.simplex_run.specs.Run.{run}
use Rattle.simplex_run.specs.Optimum.{IsProgram}

-- the number of ways to choose k of n things
unfoldable pub choose : ℕ → ℕ → ℕ
choose n zero = 1
choose zero (suc k) = 0
choose (suc n) (suc k) = choose n (suc k) + choose n k

-- the number of ways to choose the basic variables of a program
abbrev pub bases_of : LinearProgram → ℕ
bases_of p = choose (p.variables + p.rows) p.rows

-- a run that ends for want of units had fewer than there are ways to choose its basic variables
abbrev pub UnitsSuffice : Type 0
UnitsSuffice =
    (limit : ℕ) (p : LinearProgram) (left spent units : ℕ) → IsProgram p
    → run limit p left spent ≡ no_unit_left units → left < bases_of p
