-- The steps of a mix, and what a call leaves where numbers fit.
use Rattle.std.specs.Prelude.{ℕ, ◌+◌, ◌*◌, ◌≡◌, ◌<◌, ◌≤◌, List, ℤ, unsigned_abs, Option, Some, None, Bool, if◌then◌else◌}
use Rattle.run_equivalence.specs.IntegerRows.{number_at, widest}

-- the value, where the test passes
abbrev pub kept : {A : Type 0} → Bool → A → Option A
kept fits value = if fits then Some value else None

-- a number that is this multiple, which 64 bits hold
pub record HasMultiple (multiple number : ℕ) : Type 0 where
  pub is : number ≡ multiple
  pub positive : 0 < number
  pub below : number ≤ widest

-- each step of a row times p, less f times the pivot row, is of a size that words hold
abbrev pub HasRoom : ℕ → ℕ → ℕ → List ℤ → List ℤ → Type 0
HasRoom held p f zs qs = (j : ℕ) → unsigned_abs (number_at zs j) * p + f * unsigned_abs (number_at qs j) ≤ held

-- each number times p, and f times one of size most, are together at most the size
abbrev pub AreMixedSizes : ℕ → ℕ → ℕ → ℕ → List ℤ → Type 0
AreMixedSizes size p f most zs = (j : ℕ) → unsigned_abs (number_at zs j) * p + f * most ≤ size
