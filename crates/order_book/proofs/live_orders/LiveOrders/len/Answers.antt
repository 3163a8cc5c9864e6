use Rattle.std.proofs.Common.{length, sym, ap, ◌∙◌}
use Rattle.order_book.proofs.Boxes.{length-boxed}
use Rattle.order_book.proofs.live_orders.LiveOrders.len.Goals as goal

pub returns : goal.returns
returns c = c.len.ensures.len ∙ sym (length-boxed c.self.inside.by_number.entries) ∙ ap length c.self.view_is
