use Rattle.std.proofs.Common.{◌≡◌, take}
use Rattle.portfolio_margin.specs.Run.{orders_of}
use Rattle.portfolio_margin.proofs.batch.orders_of.Given as goal

-- the orders of the positions so far
abbrev pub invariant-loop-position : goal.invariant-loop-position
invariant-loop-position l = l.orders.items ≡ orders_of (take l.position-index l.positions)
