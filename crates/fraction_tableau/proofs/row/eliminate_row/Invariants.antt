use Rattle.std.proofs.Common.{map, unsigned_abs}
use Rattle.simplex_run.specs.Places.{at}
use Rattle.simplex_run.specs.Table.{with_right}
use Rattle.simplex_run.specs.Pivot.{less_product}
use Rattle.fraction_tableau.proofs.Sweeps.{Places}
use Rattle.fraction_tableau.proofs.row.eliminate_row.Given as goal

-- the steps at the places before this one are done
abbrev pub invariant-loop-i : goal.invariant-loop-i
invariant-loop-i g l =
    Places (λ k x. less_product (unsigned_abs g.N.Exact.LIMIT) (g.N.Exact.fraction l.factor) x (at (map g.N.Exact.fraction l.pivot) k)) (with_right l.columns l.labels) (map g.N.Exact.fraction l.fn.row) l.places l.i (map g.N.Exact.fraction l.row)
