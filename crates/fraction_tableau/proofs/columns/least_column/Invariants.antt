use Rattle.std.proofs.Common.{◌≡◌, drop, map}
use Rattle.std.specs.Option.{option_map}
use Rattle.simplex_run.specs.Choice.{least_below}
use Rattle.fraction_tableau.specs.Labels.{as_column}
use Rattle.fraction_tableau.proofs.columns.least_column.Given as goal

-- the best of the columns from this one on
abbrev pub invariant-loop-place : goal.invariant-loop-place
invariant-loop-place g l = option_map as_column l.best ≡ least_below l.place (drop l.place l.labels) (drop l.place (map g.N.Exact.fraction l.entries))
