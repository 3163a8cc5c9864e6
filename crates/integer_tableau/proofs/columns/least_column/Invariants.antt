use Rattle.std.proofs.Common.{◌≡◌, drop}
use Rattle.std.specs.Option.{option_map}
use Rattle.run_equivalence.specs.WholePivoting.{least_column}
use Rattle.fraction_tableau.specs.Labels.{as_column}
use Rattle.integer_tableau.proofs.columns.least_column.Given as goal

-- the best of the columns from this one on
abbrev pub invariant-loop-place : goal.invariant-loop-place
invariant-loop-place l = option_map as_column l.best ≡ least_column l.place (drop l.place l.labels) (drop l.place l.numbers)
