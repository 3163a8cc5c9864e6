use Rattle.std.proofs.Common.{◌≡◌, ◌<◌, ◌≤◌, ℕ, length, map, take, unsigned_abs}
use Rattle.exact_num.specs.CommonDenominator.{signed_amounts_over}
use Rattle.run_equivalence.specs.IntegerRows.{widest, number_at}
use Rattle.integer_tableau.proofs.fraction.write_amounts.Given as goal

-- the numbers before j are written, and 64 bits hold them
abbrev pub invariant-loop-j : goal.invariant-loop-j
invariant-loop-j g l =
    record {
      width : length l.numbers ≡ length l.entries;
      written : take l.j l.numbers ≡ take l.j (signed_amounts_over l.denominator (map g.N.Exact.fraction l.entries));
      sizes : (k : ℕ) → k < l.j → unsigned_abs (number_at l.numbers k) ≤ widest;
    }
