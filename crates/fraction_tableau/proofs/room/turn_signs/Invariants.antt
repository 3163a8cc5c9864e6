use Rattle.fraction_tableau.proofs.Filling.{Turned}
use Rattle.fraction_tableau.proofs.room.turn_signs.Given as goal

-- the signs before this one are turned
abbrev pub invariant-loop-number : goal.invariant-loop-number
invariant-loop-number g l = Turned g.N.Exact.fraction l.fn.numbers l.number-index l.numbers
