use Rattle.std.proofs.Common.{rules, map, ◌∙◌}
use Rattle.line_cover.specs.Breakpoints.{in_rising_price}
use Rattle.line_cover.specs.Prices.{price_vector}
use Rattle.line_cover.proofs.BreakSteps.{put_at}
use Rattle.line_cover.proofs.states.rising_breakpoints.Goals as goal

pub loop-order-init : goal.loop-order-init
unfolding in_rising_price
loop-order-init c = search rules

pub loop-order-preserved : goal.loop-order-preserved
loop-order-preserved c =
    put_at c.args.orders.now c.loop-order.order-index c.order-item.result (map price_vector c.loop-order.prices.items) (map price_vector c.insert_breakpoints.new.prices.items)
    c.loop-order-test.true c.order-item.is c.in_ok-insert_breakpoints.ensures
    ∙ c.loop-order.invariant
