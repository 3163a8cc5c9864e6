use Rattle.std.proofs.Common.{◌≡◌, ◌++◌, drop}
use Rattle.clearing.specs.Outcome.{whole_fills}
use Rattle.clearing.proofs.fallback.whole_fills.Given as goal

abbrev pub invariant-loop-amount : goal.invariant-loop-amount
invariant-loop-amount l = l.fills.items ++ whole_fills (drop l.amount-index l.amounts) ≡ whole_fills l.amounts
