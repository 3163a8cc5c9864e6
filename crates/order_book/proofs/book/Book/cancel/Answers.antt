use Rattle.std.proofs.Common.{IsSome, refl, sym, ap, ◌∙◌, subst}
use Rattle.order_book.specs.Book.{BookState, book_of, order_of, without_order}
use Rattle.order_book.specs.Markets.{holder_of}
use Rattle.order_book.proofs.BookKept.{kept-without_order}
use Rattle.order_book.proofs.Cancelling.{place, order_there, order_within, without_in_each-there}
use Rattle.order_book.proofs.book.Book.cancel.Goals as goal

pub remove-requires : goal.remove-requires
remove-requires c =
    let book = book_of c.self.inside.markets c.self.inside.accepted c.self.inside.finished in
    let held = ap (λ (b : BookState). holder_of c.args.order b.markets) c.self.view_is ∙ c.in_ok-market.ensures.market in
    subst IsSome (sym (place book c.self.invariant c.args.order c.in_ok-market.market held).found) refl

pub invariant_of-self : goal.invariant_of-self
invariant_of-self c =
    let book = book_of c.self.inside.markets c.self.inside.accepted c.self.inside.finished in
    let held = ap (λ (b : BookState). holder_of c.args.order b.markets) c.self.view_is ∙ c.in_ok-market.ensures.market in
    rw (c.remove.ensures, without_in_each-there book c.self.invariant c.args.order c.in_ok-market.market held) (kept-without_order book c.self.invariant c.args.order)

pub returns-clause-ok : goal.returns-clause-ok
returns-clause-ok c =
    let book = book_of c.self.inside.markets c.self.inside.accepted c.self.inside.finished in
    let held = ap (λ (b : BookState). holder_of c.args.order b.markets) c.self.view_is ∙ c.in_ok-market.ensures.market in
    ap (λ markets. book_of markets c.self.inside.accepted c.self.inside.finished) (c.remove.ensures ∙ without_in_each-there book c.self.invariant c.args.order c.in_ok-market.market held)
    ∙ ap (λ (book : BookState). without_order book c.args.order) c.self.view_is

pub returns-clause-within : goal.returns-clause-within
returns-clause-within c =
    let book = book_of c.self.inside.markets c.self.inside.accepted c.self.inside.finished in
    let held = ap (λ (b : BookState). holder_of c.args.order b.markets) c.self.view_is ∙ c.in_ok-market.ensures.market in
    let found = ap (λ (b : BookState). order_of b c.args.order) c.self.view_is ∙ c.in_ok-market.ensures.order in
    order_within book c.self.invariant c.args.order c.in_ok-market.market held c.in_ok-market.found (sym (order_there book c.self.invariant c.args.order c.in_ok-market.market held) ∙ found)
