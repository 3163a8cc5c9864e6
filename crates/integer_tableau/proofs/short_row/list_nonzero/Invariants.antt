use Rattle.std.proofs.Common.{◌≡◌, ◌≤◌, ◌++◌, length, map, drop, take}
use Rattle.exact_num.specs.Fraction.{whole}
use Rattle.fraction_tableau.specs.Nonzero.{nonzero_from}
use Rattle.integer_tableau.specs.Rows.{nonzero_in}
use Rattle.integer_tableau.proofs.short_row.list_nonzero.Given as goal

-- the places before j are there
abbrev pub invariant-loop-j : goal.invariant-loop-j
invariant-loop-j l =
    record {
      places : take l.count l.places ++ nonzero_from l.j (drop l.j (map whole l.numbers)) ≡ nonzero_in l.numbers;
      few : l.count ≤ l.j;
      room : length l.places ≡ length l.fn.places;
    }
