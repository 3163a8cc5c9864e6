use Rattle.std.proofs.Common.{◌≡◌, List, [], ◌∷◌, ◌++◌, nat_eq, sym, ap, ◌∙◌, subst}
use Rattle.std.specs.List.{IsDistinct, find}
use Rattle.std.specs.Map.{keys_of, values_of}
use Rattle.std.proofs.lemmas.List.{map-append}
use Rattle.indexmap.proofs.CallerLemmas.{insert_entry-new}
use Rattle.form.specs.declared.orders.Order.{Order}
use Rattle.order_book.specs.Markets.{has_number}
use Rattle.order_book.specs.Numbers.{numbers_of, orders_in_boxes}
use Rattle.order_book.proofs.Boxes.{keys-unboxed, none-boxed, unboxed-push}
use Rattle.order_book.proofs.ByNumber.{own_push}
use Rattle.order_book.proofs.live_orders.LiveOrders.add.Goals as goal

pub invariant_of-self-2 : goal.invariant_of-self-2
invariant_of-self-2 c =
    let entries = c.self.inside.by_number.entries in
    let order = c.args.order in
    let none = none-boxed order.id entries c.self.invariant (ap (find (has_number order.id)) c.self.view_is ∙ c.requires) in
    let last = ap orders_in_boxes (c.in_ok-insert.ensures.entries ∙ insert_entry-new nat_eq c.self.inside.by_number order.id c.in_ok-boxed.boxed none) ∙ unboxed-push entries order.id c.in_ok-boxed.boxed order c.in_ok-boxed.ensures.ok in
    record {
      own = subst (λ es. keys_of es ≡ numbers_of (values_of es)) (sym last) (own_push (orders_in_boxes entries) order c.self.invariant.own);
      distinct = subst (IsDistinct nat_eq) (sym (keys-unboxed _)) c.insert.ensures.unique;
    }

pub returns-clause-ok : goal.returns-clause-ok
returns-clause-ok c =
    let entries = c.self.inside.by_number.entries in
    let order = c.args.order in
    let none = none-boxed order.id entries c.self.invariant (ap (find (has_number order.id)) c.self.view_is ∙ c.requires) in
    let last = ap orders_in_boxes (c.in_ok-insert.ensures.entries ∙ insert_entry-new nat_eq c.self.inside.by_number order.id c.in_ok-boxed.boxed none) ∙ unboxed-push entries order.id c.in_ok-boxed.boxed order c.in_ok-boxed.ensures.ok in
    ap values_of last ∙ map-append (λ e. e.1) (orders_in_boxes entries) ((order.id, order) ∷ []) ∙ ap (λ (orders : List Order). orders ++ order ∷ []) c.self.view_is
