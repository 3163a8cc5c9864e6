-- An optimum that stands in a space.
use Rattle.std.specs.Prelude.{ℕ, ◌+◌, ◌≡◌, length, Result, Ok, Err}
use Rattle.simplex_run.specs.Ending.{Ending, done}
use Rattle.simplex_run.specs.Run.{Optimum, optimum}
use Rattle.simplex.specs.Spaces.{Contents, IsFound, x_of, y_of, reduced_of, value_of}
use Rattle.simplex.specs.declared.stop.RunStop.{RunStop}
use Rattle.constraint_generation.specs.Stops.{IsStopOf}

abbrev pub optimum_of : Contents → Optimum
optimum_of c = optimum (x_of c) (y_of c) (reduced_of c) (value_of c)

-- the run ends with it, or stops
abbrev pub IsRunAnswer : Ending Optimum → Contents → Result (Unit {0}) RunStop → ℕ → Type 0
IsRunAnswer ending c (Ok run) spent = IsFound c × (ending ≡ done (optimum_of c) spent)
IsRunAnswer ending c (Err stop) spent = IsStopOf ending stop spent

-- the numbers for so many orders and states after the first: for each order and the slack, and for
-- each row
abbrev pub HasLengths : (orders states : ℕ) → Contents → Type 0
HasLengths orders states c =
    (length (x_of c) ≡ orders + 1) × (length (y_of c) ≡ orders + states) × (length (reduced_of c) ≡ orders + 1)
