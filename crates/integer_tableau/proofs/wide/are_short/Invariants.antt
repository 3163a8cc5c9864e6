use Rattle.std.proofs.Common.{◌≡◌, take, true}
use Rattle.run_equivalence.specs.IntegerRows.{numbers_fit, widest}
use Rattle.integer_tableau.proofs.wide.are_short.Given as goal

-- the numbers so far fit
abbrev pub invariant-loop-number : goal.invariant-loop-number
invariant-loop-number l = numbers_fit widest (take l.number-index l.numbers) ≡ true
