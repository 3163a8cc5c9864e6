use Rattle.std.proofs.Common.{sym}
use Rattle.order_book.proofs.BookKept.{market_kept}
use Rattle.order_book.proofs.book.Book.info.Goals as goal

pub info-requires : goal.info-requires
info-requires c = (market_kept _ c.self.invariant c.args.market c.in_ok-get.field-0.now (sym c.in_ok-get.ensures)).room

pub returns-clause-underlyings : goal.returns-clause-underlyings
returns-clause-underlyings c =
    let kept = market_kept _ c.self.invariant c.args.market c.in_ok-get.field-0.now (sym c.in_ok-get.ensures) in
    rw c.info.ensures (kept.some, kept.few)

pub returns-clause-live : goal.returns-clause-live
returns-clause-live c = rw c.info.ensures (market_kept _ c.self.invariant c.args.market c.in_ok-get.field-0.now (sym c.in_ok-get.ensures)).room
