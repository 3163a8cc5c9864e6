use Rattle.std.proofs.Common.{◌≡◌, ◌++◌, map, replicate, take}
use Rattle.simplex_run.specs.Places.{fraction_zero}
use Rattle.simplex.proofs.fill.push_zeros.Given as goal

abbrev pub invariant-loop-i : goal.invariant-loop-i
invariant-loop-i g l =
    map g.N.Exact.fraction l.row.items ≡ map g.N.Exact.fraction l.fn.row.items ++ take l._i (replicate l.count fraction_zero)
