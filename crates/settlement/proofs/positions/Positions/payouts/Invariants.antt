use Rattle.std.proofs.Common.{◌≡◌, ◌++◌, drop}
use Rattle.settlement.specs.Positions.{AreSettledAt, payouts_of}
use Rattle.settlement.proofs.positions.Positions.payouts.Given as goal

abbrev pub invariant-loop-position : goal.invariant-loop-position
invariant-loop-position l =
    let left = drop l.position-index l.self.list in
    AreSettledAt l.market l.prices left × (l.paid.items ++ payouts_of l.market l.prices left ≡ payouts_of l.market l.prices l.self.list)
