use Rattle.std.proofs.Common.{◌≡◌, ◌++◌, [], ◌∷◌, List, Some, slice_get, rules, ap, sym, ◌∙◌}
use Rattle.form.specs.declared.orders.Order.{Order}
use Rattle.order_book.specs.Book.{live_of}
use Rattle.exchange_core.proofs.HeldOrders.{order_apart, order_more}
use Rattle.exchange_core.proofs.held.orders_of.Goals as goal
use Rattle.exchange_core.proofs.held.orders_of.Goals.{then-order-account+in_ok-push, else-order-account}

pub loop-place-preserved : goal.loop-place-preserved
loop-place-preserved c =
    let account = c.args.account in
    let live = live_of c.args.book.now c.args.market in
    let place = c.loop-place.place in
    let order = c.unwrap-order.result in
    let so_far = c.loop-place.orders.items in
    let more = c.if-order-account.orders.items in
    let there : slice_get live place ≡ Some order = search rules in
    elim c.if-order-account.branch [
      | then-order-account+in_ok-push w ↦
          let new : more ≡ so_far ++ order ∷ [] = search rules in
          new ∙ ap (λ (orders : List Order). orders ++ order ∷ []) c.loop-place.invariant ∙ sym (order_more account live place order there w.if-order-account.true)
      | else-order-account w ↦
          let same : more ≡ so_far = search rules in
          same ∙ c.loop-place.invariant ∙ sym (order_apart account live place order there w.if-order-account.false)
    ]
