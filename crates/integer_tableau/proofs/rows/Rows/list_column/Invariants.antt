use Rattle.std.proofs.Common.{◌≡◌, ◌≤◌, ◌++◌, length, map, drop, take}
use Rattle.exact_num.specs.Fraction.{whole}
use Rattle.fraction_tableau.specs.Nonzero.{nonzero_from}
use Rattle.integer_tableau.specs.Rows.{column_in, nonzero_in}
use Rattle.integer_tableau.proofs.rows.Rows.list_column.Given as goal

-- the rows before i are listed, by their signs
abbrev pub invariant-loop-i : goal.invariant-loop-i
invariant-loop-i l =
    record {
      places : take l.count l.places ++ nonzero_from l.i (drop l.i (map whole (column_in l.c l.self.short.rows))) ≡ nonzero_in (column_in l.c l.self.short.rows);
      few : l.count ≤ l.i;
      room : length l.places ≡ length l.fn.places;
    }
