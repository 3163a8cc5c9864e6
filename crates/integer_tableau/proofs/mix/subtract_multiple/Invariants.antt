use Rattle.std.proofs.Common.{◌≡◌, ◌<◌, ◌≤◌, ℕ, drop, length, map, slice_index_or}
use Rattle.run_equivalence.specs.IntegerRows.{number_at}
use Rattle.integer_tableau.proofs.Sparse.{less_at}
use Rattle.integer_tableau.proofs.mix.subtract_multiple.Given as goal

-- the steps at the places that are left give what all give, and the numbers there are as they were
abbrev pub invariant-loop-place : goal.invariant-loop-place
invariant-loop-place g l =
    record {
      width : length l.numbers ≡ length l.fn.numbers;
      rest :
          less_at (g.W.Word.value l.f) (map g.P.Word.value l.pivot) (drop l.place-index l.places) (map g.W.Word.value l.numbers)
          ≡ less_at (g.W.Word.value l.f) (map g.P.Word.value l.pivot) l.places (map g.W.Word.value l.fn.numbers);
      left :
          (k : ℕ) → l.place-index ≤ k → k < length l.places
          → number_at (map g.W.Word.value l.numbers) (slice_index_or l.places k 0) ≡ number_at (map g.W.Word.value l.fn.numbers) (slice_index_or l.places k 0);
    }
