use Rattle.std.proofs.Common.{arith, ap, rules, [], ◌∷◌}
use Rattle.arithmetic.proofs.Lists.{item_first}
use Rattle.account_need.specs.Exposure.{losses_at}
use Rattle.account_need.proofs.costs.losses.Goals as goal

pub loop-order-preserved : goal.loop-order-preserved
loop-order-preserved c =
    let z = c.args.at.now.t ∷ c.args.at.now.s ∷ [] in
    let here = ap (losses_at z) (item_first c.args.live.now c.loop-order.order-index c.order-item.result (search rules) (search rules)) in
    record {
      left = omega (arith, here, c.loss_of_all-total.ensures.loss, c.loop-order.invariant.left);
      small = omega (arith, c.loss_of_all-total.ensures.small, c.loop-order.invariant.small);
    }
