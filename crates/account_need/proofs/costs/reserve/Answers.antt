use Rattle.std.proofs.Common.{arith, ap, rules}
use Rattle.arithmetic.proofs.Lists.{item_first}
use Rattle.account_need.specs.Exposure.{reserve_of}
use Rattle.account_need.proofs.costs.reserve.Goals as goal

pub loop-order-preserved : goal.loop-order-preserved
loop-order-preserved c =
    let here = ap reserve_of (item_first c.args.live.now c.loop-order.order-index c.order-item.result (search rules) (search rules)) in
    record {
      left = omega (arith, here, c.reserve_for-total.ensures.reserve, c.loop-order.invariant.left);
      small = omega (arith, c.reserve_for-total.ensures.small, c.loop-order.invariant.small);
    }
