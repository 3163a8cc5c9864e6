use Rattle.std.proofs.Common.{rules, ◌≡◌, None, IsSome, sym, ap, ◌∙◌, subst}
use Rattle.std.specs.List.{find}
use Rattle.order_book.specs.Book.{BookState}
use Rattle.order_book.specs.Kept.{IsBookKept}
use Rattle.order_book.specs.Markets.{has_number, live_in}
use Rattle.order_book.proofs.Cancelling.{unknown_order, own_order, other_order, place, live_there, order_there}
use Rattle.order_book.proofs.book.Book.own_order.Goals as goal

pub returns-in_default-clause-refused : goal.returns-in_default-clause-refused
returns-in_default-clause-refused c =
    let none : c.market_of_order.result ≡ None = search rules in
    unknown_order c.args.self.now c.args.account c.args.order (sym c.market_of_order.ensures ∙ none)

pub unwrap-found-requires : goal.unwrap-found-requires
unwrap-found-requires c =
    let book = c.args.self.now in
    let kept = subst IsBookKept c.self.view_is c.self.invariant in
    let held = sym c.market_of_order.ensures ∙ c.in-Some.is in
    let is = c.order.ensures ∙ ap (λ (b : BookState). find (has_number c.args.order) (live_in c.in-Some.market b.markets)) c.self.view_is in
    subst IsSome (sym (is ∙ live_there book kept c.args.order c.in-Some.market held)) (place book kept c.args.order c.in-Some.market held).there

pub returns-clause-order : goal.returns-clause-order
returns-clause-order c =
    let book = c.args.self.now in
    let kept = subst IsBookKept c.self.view_is c.self.invariant in
    let is = c.order.ensures ∙ ap (λ (b : BookState). find (has_number c.args.order) (live_in c.in-Some.market b.markets)) c.self.view_is in
    order_there book kept c.args.order c.in-Some.market (sym c.market_of_order.ensures ∙ c.in-Some.is) ∙ sym is ∙ c.unwrap-found.ensures

pub returns-then-found-account-clause-refused : goal.returns-then-found-account-clause-refused
returns-then-found-account-clause-refused c =
    let book = c.args.self.now in
    let kept = subst IsBookKept c.self.view_is c.self.invariant in
    let is = c.order.ensures ∙ ap (λ (b : BookState). find (has_number c.args.order) (live_in c.in-Some.market b.markets)) c.self.view_is in
    let found = order_there book kept c.args.order c.in-Some.market (sym c.market_of_order.ensures ∙ c.in-Some.is) ∙ sym is ∙ c.unwrap-found.ensures in
    other_order book c.args.account c.args.order c.unwrap-found.result found c.if-found-account.true

pub returns-clause-refused : goal.returns-clause-refused
returns-clause-refused c =
    let book = c.args.self.now in
    let kept = subst IsBookKept c.self.view_is c.self.invariant in
    let is = c.order.ensures ∙ ap (λ (b : BookState). find (has_number c.args.order) (live_in c.in-Some.market b.markets)) c.self.view_is in
    let found = order_there book kept c.args.order c.in-Some.market (sym c.market_of_order.ensures ∙ c.in-Some.is) ∙ sym is ∙ c.unwrap-found.ensures in
    own_order book c.args.account c.args.order c.unwrap-found.result found c.if-found-account.false
