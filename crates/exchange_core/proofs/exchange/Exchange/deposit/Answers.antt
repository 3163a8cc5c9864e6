use Rattle.exchange_core.proofs.Joined.{joined-entries}
use Rattle.exchange_core.proofs.PositionsKept.{positions-same}
use Rattle.exchange_core.proofs.exchange.Exchange.deposit.Goals as goal

pub invariant_of-self-2 : goal.invariant_of-self-2
invariant_of-self-2 c = (
  joined-entries _ _ c.self.invariant.0 c.deposit.new.self c.deposit.ensures.accounts c.deposit.ensures.reserves,
  positions-same c.self.inside.positions.list c.deposit.ensures.accounts c.self.invariant.1,
)
