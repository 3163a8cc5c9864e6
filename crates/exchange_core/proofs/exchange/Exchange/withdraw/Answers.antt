use Rattle.exchange_core.proofs.Joined.{joined-entries}
use Rattle.exchange_core.proofs.PositionsKept.{positions-same}
use Rattle.exchange_core.proofs.exchange.Exchange.withdraw.Goals as goal

pub invariant_of-self-2 : goal.invariant_of-self-2
invariant_of-self-2 c = (
  joined-entries _ _ c.self.invariant.0 c.withdraw.new.self c.withdraw.ensures.accounts c.withdraw.ensures.reserves,
  positions-same c.self.inside.positions.list c.withdraw.ensures.accounts c.self.invariant.1,
)
