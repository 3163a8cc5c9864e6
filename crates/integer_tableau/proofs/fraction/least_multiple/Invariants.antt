use Rattle.std.proofs.Common.{drop, map}
use Rattle.run_equivalence.specs.IntegerRows.{least_multiple}
use Rattle.integer_tableau.specs.Within.{HasMultiple}
use Rattle.integer_tableau.proofs.fraction.least_multiple.Given as goal

-- that of the entries from this one on
abbrev pub invariant-loop-j : goal.invariant-loop-j
invariant-loop-j g l = HasMultiple (least_multiple (map g.N.Exact.fraction (drop l.j l.entries))) l.found
