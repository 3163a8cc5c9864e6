use Rattle.std.proofs.Common.{◌≡◌, ◌+◌, ◌≤◌, [], ◌∷◌, ◌++◌, length, map, take, ℕ}
use Rattle.exact_num.specs.Fraction.{negated}
use Rattle.simplex_run.specs.Places.{fraction_zero, numbers}
use Rattle.run_equivalence.specs.IntegerRows.{taken_in, widest}
use Rattle.fraction_tableau.specs.SparseRows.{lists_of}
use Rattle.integer_tableau.specs.Eliminating.{IsKept}
use Rattle.integer_tableau.specs.Rows.{row_in, integer_rows_in}
use Rattle.integer_tableau.specs.Stored.{AreStored, rows_in}
use Rattle.integer_tableau.specs.Tables.{width_of, room_of}
use Rattle.integer_tableau.proofs.table.WholeTable.take_in.Given as goal

-- the rows before i are taken in
abbrev pub invariant-loop-i : goal.invariant-loop-i
invariant-loop-i g l =
    let f = g.N.Exact.fraction in
    record {
      labels : l.self.labels.items ≡ numbers 0 l.columns;
      columns : length l.self.labels.items ≡ l.columns;
      basics : l.self.basics.items ≡ numbers l.columns l.i;
      rows : integer_rows_in (width_of l.self) (rows_in l.self.rows) ≡ take l.i (map taken_in (lists_of f l.program));
      objective : row_in (width_of l.self) l.self.objective.numbers.items ≡ taken_in (map negated (map f l.program.costs.items) ++ fraction_zero ∷ []);
      stored : (limit : ℕ) → widest ≤ limit → AreStored limit (width_of l.self) l.self.rows;
      last : IsKept widest (width_of l.self) l.self.objective.size (row_in (width_of l.self) l.self.objective.numbers.items);
      count : length l.self.rows.short.rows ≡ l.i;
      room : length l.program.ends.items ≤ room_of l.self;
      line : length l.line ≡ l.columns + 1;
    }
