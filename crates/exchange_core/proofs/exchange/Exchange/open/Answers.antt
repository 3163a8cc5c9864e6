use Rattle.exchange_core.proofs.Joined.{joined-open}
use Rattle.exchange_core.proofs.PositionsKept.{positions-open, positions-same}
use Rattle.exchange_core.proofs.exchange.Exchange.open.Goals as goal

pub invariant_of-self-2 : goal.invariant_of-self-2
invariant_of-self-2 c = (
  joined-open _ _ c.self.invariant.0 c.open.new.self c.args.account c.in_ok-open.ensures.accounts c.in_ok-open.ensures.reserves,
  positions-same c.self.inside.positions.list c.in_ok-open.ensures.accounts (positions-open c.self.inside.ledger.accounts c.args.account c.self.inside.book.markets c.self.inside.positions.list c.self.invariant.1),
)
