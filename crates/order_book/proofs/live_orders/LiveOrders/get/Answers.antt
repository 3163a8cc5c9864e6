use Rattle.std.proofs.Common.{Some, option_map, ap, ◌∙◌}
use Rattle.std.specs.List.{find}
use Rattle.order_book.specs.Markets.{has_number}
use Rattle.order_book.proofs.Boxes.{held, find-boxed}
use Rattle.order_book.proofs.live_orders.LiveOrders.get.Goals as goal

pub returns-in-Some : goal.returns-in-Some
returns-in-Some c =
    ap Some c.deref.ensures ∙ ap (option_map held) c.in-Some.ensures.value ∙ find-boxed c.args.number c.self.inside.by_number.entries c.self.invariant ∙ ap (find (has_number c.args.number)) c.self.view_is

pub returns-in-None : goal.returns-in-None
returns-in-None c =
    ap (option_map held) c.in-None.ensures.value ∙ find-boxed c.args.number c.self.inside.by_number.entries c.self.invariant ∙ ap (find (has_number c.args.number)) c.self.view_is
