use Rattle.std.proofs.Common.{map, unsigned_abs}
use Rattle.exact_num.specs.Fits.{div_of}
use Rattle.simplex_run.specs.Table.{with_right}
use Rattle.fraction_tableau.proofs.Sweeps.{Places}
use Rattle.fraction_tableau.proofs.row.divide_row.Given as goal

-- the steps at the places before this one are done
abbrev pub invariant-loop-i : goal.invariant-loop-i
invariant-loop-i g l =
    Places (λ k x. div_of (unsigned_abs g.N.Exact.LIMIT) x (g.N.Exact.fraction l.divisor)) (with_right l.columns l.labels) (map g.N.Exact.fraction l.fn.row) l.places l.i (map g.N.Exact.fraction l.row)
