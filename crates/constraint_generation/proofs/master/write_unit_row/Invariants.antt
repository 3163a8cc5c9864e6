use Rattle.std.specs.Prelude.{vec_capacity, vec_len}
use Rattle.std.proofs.Common.{◌≡◌, ◌≤◌, map, take}
use Rattle.simplex_run.specs.Places.{unit_row}
use Rattle.constraint_generation.proofs.master.write_unit_row.Given as goal

abbrev pub invariant-loop-k : goal.invariant-loop-k
invariant-loop-k g l = record {
  row : map g.N.Exact.fraction l.row.items ≡ take l.k (unit_row l.count l.own);
  len : vec_len l.row ≡ l.k;
  room : vec_capacity l.fn.row ≤ vec_capacity l.row;
}
