use Rattle.std.proofs.Common.{◌≡◌, take, length}
use Rattle.integer_tableau.proofs.wide.narrow.Given as goal

-- the first i numbers are written
abbrev pub invariant-loop-i : goal.invariant-loop-i
invariant-loop-i l = (length l.out ≡ length l.fn.out) × (take l.i l.out ≡ take l.i l.numbers)
