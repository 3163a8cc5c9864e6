use Rattle.std.proofs.Common.{◌≡◌, drop}
use Rattle.run_equivalence.specs.WholePivoting.{common_of}
use Rattle.integer_tableau.proofs.divisor.common.Given as goal

-- what the rest has in common with what was found is what all have
abbrev pub invariant-loop-number : goal.invariant-loop-number
invariant-loop-number l = common_of l.found.number (drop l.number-index l.numbers) ≡ common_of l.fn.denominator l.numbers
