use Rattle.std.proofs.Common.{sym}
use Rattle.order_book.proofs.BookKept.{live_within}
use Rattle.order_book.proofs.book.Book.live_order.Goals as goal

pub returns-clause-within : goal.returns-clause-within
returns-clause-within c = rw c.order_at.ensures (live_within _ c.self.invariant c.args.market c.args.place c.in_ok-get.field-0.now (sym c.in_ok-get.ensures))
