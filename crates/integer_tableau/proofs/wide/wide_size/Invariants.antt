use Rattle.std.proofs.Common.{ℕ, ◌<◌, ◌≤◌, unsigned_abs}
use Rattle.run_equivalence.specs.IntegerRows.{number_at}
use Rattle.integer_tableau.proofs.wide.wide_size.Given as goal

-- none of the first numbers is above it
abbrev pub invariant-loop-number : goal.invariant-loop-number
invariant-loop-number l = (k : ℕ) → k < l.number-index → unsigned_abs (number_at l.numbers k) ≤ l.size
