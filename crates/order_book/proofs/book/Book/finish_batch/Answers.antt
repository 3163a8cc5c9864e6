use Rattle.std.proofs.Common.{◌≡◌, ◌<◌, true, sym, subst}
use Rattle.limits.specs.declared.TheConstants.{MAX_BATCHES}
use Rattle.order_book.specs.Book.{BookState, book_of, is_trading}
use Rattle.order_book.proofs.Accepting.{trading_found}
use Rattle.order_book.proofs.BookKept.{kept-after_batch}
use Rattle.order_book.proofs.book.Book.finish_batch.Goals as goal

pub invariant_of-self : goal.invariant_of-self
invariant_of-self c =
    let book = book_of c.self.inside.markets c.self.inside.accepted c.self.inside.finished in
    let more = subst (λ (book : BookState). book.finished < MAX_BATCHES) (sym c.self.view_is) c.requires.few in
    let m = trading_found book c.args.market (subst (λ (book : BookState). is_trading book c.args.market ≡ true) (sym c.self.view_is) c.requires.open) in
    rw c.clear.ensures (kept-after_batch book c.self.invariant c.args.market m.0 m.1 more)
