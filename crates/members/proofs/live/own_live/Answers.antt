use Rattle.std.proofs.Common.{arith, ap, rules}
use Rattle.arithmetic.proofs.Lists.{item_first}
use Rattle.members.specs.Members.{own_live}
use Rattle.members.proofs.live.own_live.Goals as goal

pub loop-order-preserved : goal.loop-order-preserved
loop-order-preserved c =
    let here = ap (own_live c.args.owners.now c.args.session) (item_first c.args.orders.now c.loop-order.order-index c.order-item.result (search rules) (search rules)) in
    record {
      left = omega (arith, here, c.own_one-count.ensures.own, c.loop-order.invariant.left);
      small = omega (arith, c.own_one-count.ensures.small, c.loop-order.invariant.small);
    }
