use Rattle.std.proofs.Common.{ap}
use Rattle.order_book.specs.Book.{BookState}
use Rattle.exchange_core.proofs.PositionsKept.{positions-at, positions-live, positions-same}
use Rattle.exchange_core.proofs.exchange.Exchange.place.Goals as goal

pub invariant_of-self-2 : goal.invariant_of-self-2
invariant_of-self-2 c =
    let list = c.self.inside.positions.list in (
      c.in_ok-order.ensures.joined,
      positions-at list (ap (λ (b : BookState). b.markets) c.in_ok-order.ensures.ok)
          (positions-same list c.in_ok-order.ensures.accounts (positions-live c.self.inside.ledger.accounts c.args.order.now.market _ c.self.inside.book.markets list c.self.invariant.1)),
    )
