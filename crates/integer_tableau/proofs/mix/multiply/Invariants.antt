use Rattle.std.proofs.Common.{◌≡◌, ◌≤◌, ◌*ℤ◌, ℕ, take, length, map}
use Rattle.run_equivalence.specs.IntegerRows.{number_at}
use Rattle.integer_tableau.proofs.mix.multiply.Given as goal

-- the first i numbers are multiplied, and the rest are as they were
abbrev pub invariant-loop-i : goal.invariant-loop-i
invariant-loop-i g l =
    record {
      width : length l.numbers ≡ length l.fn.numbers;
      written : take l.i (map g.W.Word.value l.numbers) ≡ take l.i (map (λ z. z *ℤ g.W.Word.value l.p) (map g.W.Word.value l.fn.numbers));
      left : (j : ℕ) → l.i ≤ j → number_at (map g.W.Word.value l.numbers) j ≡ number_at (map g.W.Word.value l.fn.numbers) j;
    }
