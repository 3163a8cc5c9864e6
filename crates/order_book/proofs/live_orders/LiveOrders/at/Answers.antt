use Rattle.std.proofs.Common.{Some, ℕ, option_map, sym, ap, ◌∙◌, Global}
use Rattle.std.specs.Prelude.{Box, slice_get}
use Rattle.form.specs.declared.orders.Order.{Order}
use Rattle.order_book.proofs.Boxes.{at-boxed}
use Rattle.order_book.proofs.live_orders.LiveOrders.at.Goals as goal

pub returns-in-Some : goal.returns-in-Some
returns-in-Some c =
    ap Some c.deref.ensures ∙ ap (option_map (λ (e : ℕ × Box Order Global). e.1.value)) c.in-Some.ensures.entry
    ∙ sym (at-boxed c.self.inside.by_number.entries c.args.place) ∙ ap (λ orders. slice_get orders c.args.place) c.self.view_is

pub returns-in-None : goal.returns-in-None
returns-in-None c =
    ap (option_map (λ (e : ℕ × Box Order Global). e.1.value)) c.in-None.ensures.entry
    ∙ sym (at-boxed c.self.inside.by_number.entries c.args.place) ∙ ap (λ orders. slice_get orders c.args.place) c.self.view_is
