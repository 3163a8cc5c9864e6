use Rattle.std.proofs.Common.{◌+◌, drop, map, ap, sym, ◌∙◌}
use Rattle.arithmetic.proofs.Lists.{item_first}
use Rattle.form.specs.Payoff.{bundle_of}
use Rattle.cell_cover.specs.Classes.{option_in, options_in}
use Rattle.cell_cover.specs.Kinked.{all_as}
use Rattle.cell_cover.specs.Rowed.{with_fresh}
use Rattle.cell_cover.proofs.Rowing.{fresh_append}
use Rattle.cell_cover.proofs.kinks.classes_of.Goals as goal

pub loop-order-preserved : goal.loop-order-preserved
loop-order-preserved c =
    let orders = c.args.orders.now in
    let i = c.loop-order.order-index in
    let order = c.order-item.result in
    let old = all_as c.args.count c.loop-order.classes.items in
    let rest = options_in (drop (i + 1) orders) in
    c.loop-order.invariant
    ∙ ap (λ os. with_fresh old (options_in os)) (item_first orders i order c.loop-order-test.true c.order-item.is)
    ∙ fresh_append old (map option_in (bundle_of order)) rest
    ∙ ap (λ cs. with_fresh cs rest) (sym c.in_ok-add_classes.ensures)
