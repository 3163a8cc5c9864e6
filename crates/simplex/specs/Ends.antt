-- How a run over a table ends.
use Rattle.std.specs.Prelude.{ℕ, Result, Ok, Err}
use Rattle.simplex_run.specs.Ending.{Ending, unbounded, wide_at, no_unit_left}
use Rattle.simplex_run.specs.Table.{Table}
use Rattle.simplex_run.specs.Run.{Optimum, read_off, direction}
use Rattle.fraction_tableau.specs.Labels.{as_column}
use Rattle.simplex.specs.declared.run.End.{End}
use Rattle.simplex.specs.declared.run.End.TheVariants.{Optimal, Unbounded}
use Rattle.simplex.specs.declared.stop.RunStop.{RunStop}
use Rattle.simplex.specs.declared.stop.RunStop.TheVariants.{Wide, Budget}

-- how the run of n variables and m rows ended, with the units spent and the table at the end
abbrev pub ending_of : ℕ → ℕ → Result End RunStop → ℕ → Table → Ending Optimum
ending_of n m (Ok Optimal) spent t = read_off n m t spent
ending_of n m (Ok (Unbounded c)) spent t = unbounded (direction n (as_column c) t) spent
ending_of n m (Err (Wide unit wide)) spent t = wide_at spent wide
ending_of n m (Err Budget) spent t = no_unit_left spent
