use Rattle.std.proofs.Common.{◌≡◌, drop}
use Rattle.cert_check.specs.Shape.{are_fills}
use Rattle.cert_check.proofs.shape.are_fills.Given as goal

abbrev pub invariant-loop-i : goal.invariant-loop-i
invariant-loop-i l = are_fills l.orders l.fills ≡ are_fills (drop l.i l.orders) (drop l.i l.fills)
