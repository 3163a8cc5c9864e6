use Rattle.std.proofs.Common.{◌≡◌, length, true, sym, ap, ◌∙◌, subst, arith}
use Rattle.order_book.specs.Book.{BookState, book_of, is_trading}
use Rattle.order_book.proofs.Accepting.{trading_found}
use Rattle.order_book.proofs.BookKept.{market_kept, kept-after_close}
use Rattle.order_book.proofs.MarketLists.{live_found}
use Rattle.order_book.proofs.book.Book.close.Goals as goal

pub overflow_cast-result : goal.overflow_cast-result
overflow_cast-result c =
    let book = book_of c.self.inside.markets c.self.inside.accepted c.self.inside.finished in
    let m = trading_found book c.args.market (subst (λ (book : BookState). is_trading book c.args.market ≡ true) (sym c.self.view_is) c.requires) in
    let lapsed = c.close.ensures.lapsed ∙ ap length (live_found c.args.market book.markets m.0 m.1) in
    let few = (market_kept book c.self.invariant c.args.market m.0 m.1).room in
    omega (arith, lapsed, few)

pub invariant_of-self : goal.invariant_of-self
invariant_of-self c =
    let book = book_of c.self.inside.markets c.self.inside.accepted c.self.inside.finished in
    let m = trading_found book c.args.market (subst (λ (book : BookState). is_trading book c.args.market ≡ true) (sym c.self.view_is) c.requires) in
    rw c.close.ensures.closed (kept-after_close book c.self.invariant c.args.market m.0 m.1)
