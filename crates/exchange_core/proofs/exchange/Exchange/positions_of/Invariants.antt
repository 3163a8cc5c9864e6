use Rattle.std.proofs.Common.{◌≡◌, take}
use Rattle.exchange_core.specs.Held.{positions_of}
use Rattle.exchange_core.proofs.exchange.Exchange.positions_of.Given as goal

-- those among the positions so far
abbrev pub invariant-loop-position : goal.invariant-loop-position
invariant-loop-position l = l.held.items ≡ positions_of l.account l.market (take l.position-index l.self.positions)
