use Rattle.std.proofs.Common.{◌+◌, ◌≤◌, take, vec_capacity, vec_len}
use Rattle.fraction_tableau.specs.SparseEntries.{HasAdded}
use Rattle.fraction_tableau.proofs.sparse_entry.push_nonzero.Given as goal

-- the numbers before this place are added
abbrev pub invariant-loop-place : goal.invariant-loop-place
invariant-loop-place g l = record {
  added : HasAdded g.N.Exact.fraction (take l.place l.numbers) l.fn.entries.items l.entries.items;
  few : vec_len l.entries ≤ vec_len l.fn.entries + l.place;
  room : vec_capacity l.fn.entries ≤ vec_capacity l.entries;
}
