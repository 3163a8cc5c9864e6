use Rattle.std.specs.Prelude.{vec_capacity, vec_len}
use Rattle.std.proofs.Common.{◌≡◌, ◌+◌, ◌≤◌, ◌++◌, map, pos, replicate}
use Rattle.exact_num.specs.Fraction.{whole}
use Rattle.pricing_oracle.proofs.rows.push_ones.Given as goal

abbrev pub invariant-loop-i : goal.invariant-loop-i
invariant-loop-i g l = record {
  added : map g.N.Exact.fraction l.row.items ≡ map g.N.Exact.fraction l.fn.row.items ++ replicate l._i (whole (pos 1));
  len : vec_len l.row ≡ vec_len l.fn.row + l._i;
  room : vec_capacity l.fn.row ≤ vec_capacity l.row;
}
