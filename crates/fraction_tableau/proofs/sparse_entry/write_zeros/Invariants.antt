use Rattle.std.proofs.Common.{◌≡◌, length, map, replicate, take}
use Rattle.simplex_run.specs.Places.{fraction_zero}
use Rattle.fraction_tableau.proofs.sparse_entry.write_zeros.Given as goal

-- the numbers before j are 0
abbrev pub invariant-loop-j : goal.invariant-loop-j
invariant-loop-j g l = record {
  zeros : take l.j (map g.N.Exact.fraction l.row) ≡ replicate l.j fraction_zero;
  width : length l.row ≡ length l.fn.row;
}
