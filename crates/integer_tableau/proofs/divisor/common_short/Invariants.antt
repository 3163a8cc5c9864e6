use Rattle.std.proofs.Common.{◌≡◌, ◌<◌, ◌≤◌, drop}
use Rattle.run_equivalence.specs.WholePivoting.{common_of}
use Rattle.integer_tableau.proofs.divisor.common_short.Given as goal

-- what the rest has in common with what was found is what all have
abbrev pub invariant-loop-number : goal.invariant-loop-number
invariant-loop-number l =
    record {
      common : common_of l.found (drop l.number-index l.numbers) ≡ common_of l.fn.denominator l.numbers;
      above : 0 < l.found;
      below : l.found ≤ l.fn.denominator;
    }
