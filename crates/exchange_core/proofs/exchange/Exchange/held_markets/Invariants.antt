use Rattle.std.proofs.Common.{◌≡◌, take}
use Rattle.exchange_core.specs.Held.{markets_of}
use Rattle.exchange_core.proofs.exchange.Exchange.held_markets.Given as goal

-- those of the positions so far
abbrev pub invariant-loop-position : goal.invariant-loop-position
invariant-loop-position l = l.markets.keys ≡ markets_of l.account (take l.position-index l.self.positions)
