use Rattle.std.proofs.Common.{◌≡◌, take, length, map}
use Rattle.std.specs.Int.{int_signum}
use Rattle.integer_tableau.proofs.wide.write_signs.Given as goal

-- the signs of the first i numbers are written
abbrev pub invariant-loop-i : goal.invariant-loop-i
invariant-loop-i l = (length l.out ≡ length l.fn.out) × (take l.i l.out ≡ take l.i (map int_signum l.numbers))
