-- What the limit on sizes changes in a run: nothing but whether a step fits.
use Rattle.std.specs.Prelude.{◌≡◌, ℕ, ◌≤◌}
use Rattle.simplex_run.specs.Program.{LinearProgram}
use Rattle.simplex_run.specs.Ending.{Ending, done, unbounded, wide_at, no_unit_left, HasNoMisfit}
use Rattle.simplex_run.specs.Run.{run}
use Rattle.simplex_run.specs.Optimum.{IsProgram}
use Rattle.simplex_run.specs.Choose.{bases_of}

-- a run without a misfit is the same with each greater limit
abbrev pub SameWithGreaterLimit : Type 0
SameWithGreaterLimit =
    (limit greater : ℕ) (p : LinearProgram) (left spent : ℕ) → limit ≤ greater
    → HasNoMisfit (run limit p left spent) → run greater p left spent ≡ run limit p left spent

-- the end is an optimum or a direction
abbrev pub IsFound : {A : Type 0} → Ending A → Type 0
IsFound (done answer units) = Unit {0}
IsFound (unbounded d units) = Unit {0}
IsFound (wide_at units wide) = ⊥
IsFound (no_unit_left units) = ⊥

-- without a limit each run ends with an optimum or a direction: some limit is enough
abbrev pub RunsEnd : Type 0
RunsEnd = (p : LinearProgram) → IsProgram p → (limit : ℕ) × IsFound (run limit p (bases_of p) 0)
