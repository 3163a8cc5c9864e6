use Rattle.std.proofs.Common.{◌≡◌, None, sym, ap, ◌∙◌, subst}
use Rattle.order_book.specs.Book.{BookState, book_of}
use Rattle.order_book.specs.Refusals.{market_refusals, unless_memory}
use Rattle.lists.specs.Refusals.{first_of, refusal_in}
use Rattle.order_book.proofs.Accepting.{listable}
use Rattle.order_book.proofs.BookKept.{kept-with_market}
use Rattle.order_book.proofs.book.Book.market.Goals as goal

pub invariant_of-self-2 : goal.invariant_of-self-2
invariant_of-self-2 c =
    let book = book_of c.self.inside.markets c.self.inside.accepted c.self.inside.finished in
    let none = sym c.check_market.ensures.refused ∙ ap (refusal_in unless_memory) c.in_ok-check_market.was in
    let free = listable book c.args.market (subst (λ (book : BookState). first_of (market_refusals book c.args.market) ≡ None) (sym c.self.view_is) none) in
    rw c.in_ok-list.ensures.ok (kept-with_market book c.self.invariant c.args.market c.args.underlyings free.0 c.requires.some c.requires.few free.1)
