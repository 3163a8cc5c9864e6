use Rattle.std.proofs.Common.{◌≡◌, drop, length, map}
use Rattle.fraction_tableau.specs.SparseEntries.{written}
use Rattle.fraction_tableau.proofs.sparse_entry.write_entries.Given as goal

-- the row with the entries that are left is the row with all of them
abbrev pub invariant-loop-entry : goal.invariant-loop-entry
invariant-loop-entry g l = record {
  rest :
      written g.N.Exact.fraction (drop l.entry-index l.entries) (map g.N.Exact.fraction l.row)
      ≡ written g.N.Exact.fraction l.entries (map g.N.Exact.fraction l.fn.row);
  width : length l.row ≡ length l.fn.row;
}
