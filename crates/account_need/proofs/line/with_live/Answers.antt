use Rattle.std.proofs.Common.{◌≡◌, to_z, ◌+◌, ℤ, List, ◌∷◌, drop, ap, sym, rules, ◌∙◌}
use Rattle.std.proofs.lemmas.Int.{to_z-of_z}
use mir.Syntax.{w128}
use Rattle.arithmetic.proofs.Lists.{item_first}
use Rattle.form.specs.declared.orders.Order.{Order}
use Rattle.form.specs.Payoff.{bundle_legs}
use Rattle.account_need.specs.Prices.{in_code, turning_live, with_bends}
use Rattle.account_need.specs.Rounded.{options_of}
use Rattle.account_need.proofs.LineBounds.{with_bends-append}
use Rattle.account_need.proofs.LineFits.{bound_fits}
use Rattle.account_need.proofs.Turning.{order_passes, order_turns}
use Rattle.account_need.proofs.line.with_live.Goals as goal
use Rattle.account_need.proofs.line.with_live.Goals.{then-is_by_itself, else-is_by_itself}

pub loop-order-preserved : goal.loop-order-preserved
loop-order-preserved c =
    let i = c.loop-order.order-index in
    let o = c.order-item.result in
    let best = to_z w128 c.loop-order.best-bits in
    let left = drop (i + 1) c.args.live.now in
    let here : drop i c.args.live.now ≡ o ∷ left = item_first c.args.live.now i o (search rules) (search rules) in
    elim c.if-is_by_itself.branch [
      | then-is_by_itself w ↦
          let x = w.with_bundle-best.result in
          let ex = to_z-of_z w128 x (bound_fits x w.with_bundle-best.ensures.small) in
          record {
            bound = λ positions.
                let p = in_code c.args.sums.now positions c.args.live.now in
                rw (w.best-is, ex)
                (c.loop-order.invariant.bound positions
                ∙ ap (λ (orders : List Order). with_bends p best (turning_live orders)) here
                ∙ ap (with_bends p best) (order_turns o left (search rules))
                ∙ with_bends-append p best (options_of (bundle_legs o.bundle)) (turning_live left)
                ∙ ap (λ (b : ℤ). with_bends p b (turning_live left)) (sym (w.with_bundle-best.ensures.bound positions)));
            small = rw (w.best-is, ex) w.with_bundle-best.ensures.small;
          }
      | else-is_by_itself w ↦ record {
        bound = λ positions.
            let p = in_code c.args.sums.now positions c.args.live.now in
            rw (w.best-is)
            (c.loop-order.invariant.bound positions
            ∙ ap (λ (orders : List Order). with_bends p best (turning_live orders)) here
            ∙ ap (with_bends p best) (order_passes o left (search rules)));
        small = rw (w.best-is) c.loop-order.invariant.small;
      }
    ]
