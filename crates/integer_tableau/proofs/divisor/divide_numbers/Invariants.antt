use Rattle.std.proofs.Common.{◌≡◌, ◌≤◌, ℕ, take, length, map, pos, int_div}
use Rattle.run_equivalence.specs.IntegerRows.{number_at}
use Rattle.integer_tableau.proofs.divisor.divide_numbers.Given as goal

-- the first i numbers are divided, and the rest are as they were
abbrev pub invariant-loop-i : goal.invariant-loop-i
invariant-loop-i l =
    record {
      width : length l.numbers ≡ length l.fn.numbers;
      written : take l.i l.numbers ≡ take l.i (map (λ z. int_div z (pos l.divisor)) l.fn.numbers);
      left : (j : ℕ) → l.i ≤ j → number_at l.numbers j ≡ number_at l.fn.numbers j;
    }
