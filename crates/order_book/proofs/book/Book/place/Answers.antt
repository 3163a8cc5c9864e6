use Rattle.std.proofs.Common.{◌≡◌, None, sym, ap, ◌∙◌, subst}
use Rattle.order_book.specs.Book.{BookState, book_of}
use Rattle.order_book.specs.Refusals.{place_refusals, unless_memory}
use Rattle.lists.specs.Refusals.{first_of, refusal_in}
use Rattle.order_book.proofs.Accepting.{accepts}
use Rattle.order_book.proofs.BookKept.{next_unused, kept-with_order}
use Rattle.order_book.proofs.book.Book.place.Goals as goal

pub add-requires-clause-fresh : goal.add-requires-clause-fresh
add-requires-clause-fresh c =
    let book = book_of c.self.inside.markets c.self.inside.accepted c.self.inside.finished in
    let none = sym c.check_place.ensures.refused ∙ ap (refusal_in unless_memory) c.in_ok-check_place.was in
    let a = accepts book c.args.order.now (subst (λ (book : BookState). first_of (place_refusals book c.args.order.now) ≡ None) (sym c.self.view_is) none) in
    rw c.with_number.ensures (next_unused book c.self.invariant c.args.order.now.market a.market a.found)

pub invariant_of-self-2 : goal.invariant_of-self-2
invariant_of-self-2 c =
    let book = book_of c.self.inside.markets c.self.inside.accepted c.self.inside.finished in
    let none = sym c.check_place.ensures.refused ∙ ap (refusal_in unless_memory) c.in_ok-check_place.was in
    let a = accepts book c.args.order.now (subst (λ (book : BookState). first_of (place_refusals book c.args.order.now) ≡ None) (sym c.self.view_is) none) in
    rw (c.in_ok-add.ensures.ok, c.with_number.ensures) (kept-with_order book c.self.invariant c.args.order.now c.requires a)
