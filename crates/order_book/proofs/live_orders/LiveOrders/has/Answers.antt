use Rattle.std.proofs.Common.{is_some, nat_eq, ap, ◌∙◌}
use Rattle.std.specs.List.{find}
use Rattle.std.specs.Map.{lookup}
use Rattle.order_book.specs.Markets.{has_number}
use Rattle.order_book.proofs.Boxes.{same_some, find-boxed}
use Rattle.order_book.proofs.live_orders.LiveOrders.has.Goals as goal

pub returns : goal.returns
returns c =
    let entries = c.self.inside.by_number.entries in
    c.contains_key.ensures ∙ same_some (lookup (nat_eq c.args.number) entries)
    ∙ ap is_some (find-boxed c.args.number entries c.self.invariant ∙ ap (find (has_number c.args.number)) c.self.view_is)
