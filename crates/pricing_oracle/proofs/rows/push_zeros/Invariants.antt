use Rattle.std.specs.Prelude.{vec_capacity, vec_len}
use Rattle.std.proofs.Common.{◌≡◌, ◌+◌, ◌≤◌, ◌++◌, map, replicate}
use Rattle.simplex_run.specs.Places.{fraction_zero}
use Rattle.pricing_oracle.proofs.rows.push_zeros.Given as goal

abbrev pub invariant-loop-i : goal.invariant-loop-i
invariant-loop-i g l = record {
  added : map g.N.Exact.fraction l.row.items ≡ map g.N.Exact.fraction l.fn.row.items ++ replicate l._i fraction_zero;
  len : vec_len l.row ≡ vec_len l.fn.row + l._i;
  room : vec_capacity l.fn.row ≤ vec_capacity l.row;
}
