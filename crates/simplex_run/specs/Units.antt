-- The units that a run spends.
use Rattle.std.specs.Prelude.{◌≡◌, ℕ, ◌+◌, ◌<◌, ◌≤◌}
use Rattle.simplex_run.specs.Program.{LinearProgram}
use Rattle.simplex_run.specs.Ending.{Ending, done, unbounded, wide_at, no_unit_left}
use Rattle.simplex_run.specs.Run.{run}

-- the units spent at the end
abbrev pub units_of : {A : Type 0} → Ending A → ℕ
units_of (done answer units) = units
units_of (unbounded d units) = units
units_of (wide_at units wide) = units
units_of (no_unit_left units) = units

-- of `left` units, after `spent` units: a last pivot without a limit or with a misfit spends its
-- own, and the budget stops a run only where no unit is left
abbrev pub IsCounted : {A : Type 0} → ℕ → ℕ → Ending A → Type 0
IsCounted left spent (done answer units) = (spent ≤ units) × (units ≤ spent + left)
IsCounted left spent (unbounded d units) = (spent < units) × (units ≤ spent + left)
IsCounted left spent (wide_at units wide) = (spent < units) × (units ≤ spent + left)
IsCounted left spent (no_unit_left units) = units ≡ spent + left

-- each run counts its units so
abbrev pub UnitsAreCounted : Type 0
UnitsAreCounted =
    (limit : ℕ) (p : LinearProgram) (left spent : ℕ) → IsCounted left spent (run limit p left spent)
