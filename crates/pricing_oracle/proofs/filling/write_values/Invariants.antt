use Rattle.std.specs.Prelude.{vec_capacity, vec_len}
use Rattle.std.proofs.Common.{◌≡◌, ◌≤◌, map, take}
use Rattle.simplex.specs.Spaces.{x_of}
use Rattle.pricing_oracle.proofs.filling.write_values.Given as goal

abbrev pub invariant-loop-j : goal.invariant-loop-j
invariant-loop-j g l = record {
  written : map g.N.Exact.fraction l.row.items ≡ take l.j (x_of l.space.contents);
  len : vec_len l.row ≡ l.j;
  room : vec_capacity l.fn.row ≤ vec_capacity l.row;
}
