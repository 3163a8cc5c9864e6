use Rattle.std.proofs.Common.{◌≡◌, nat_eq, sym, ap, ◌∙◌, subst}
use Rattle.std.specs.List.{IsDistinct}
use Rattle.std.specs.Map.{keys_of, values_of}
use Rattle.order_book.specs.Markets.{without}
use Rattle.order_book.specs.Numbers.{numbers_of, orders_in_boxes}
use Rattle.order_book.proofs.Boxes.{keys-unboxed, remove-unboxed}
use Rattle.order_book.proofs.ByNumber.{own_remove, without-remove_entry}
use Rattle.order_book.proofs.live_orders.LiveOrders.remove.Goals as goal

pub invariant_of-self : goal.invariant_of-self
invariant_of-self c =
    let entries = c.self.inside.by_number.entries in
    let left = ap orders_in_boxes c.shift_remove.ensures.entries ∙ remove-unboxed (nat_eq c.args.number) entries in
    record {
      own = subst (λ es. keys_of es ≡ numbers_of (values_of es)) (sym left) (own_remove (nat_eq c.args.number) (orders_in_boxes entries) c.self.invariant.own);
      distinct = subst (IsDistinct nat_eq) (sym (keys-unboxed _)) c.shift_remove.ensures.unique;
    }

pub returns : goal.returns
returns c =
    let entries = c.self.inside.by_number.entries in
    ap values_of (ap orders_in_boxes c.shift_remove.ensures.entries ∙ remove-unboxed (nat_eq c.args.number) entries)
    ∙ without-remove_entry c.args.number (orders_in_boxes entries) c.self.invariant ∙ ap (without c.args.number) c.self.view_is
