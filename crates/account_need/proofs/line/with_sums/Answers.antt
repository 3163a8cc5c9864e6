use Rattle.std.proofs.Common.{◌≡◌, to_z, ◌+◌, ℤ, List, ◌∷◌, drop, map, ap, sym, rules, ◌∙◌}
use Rattle.std.proofs.lemmas.Int.{to_z-of_z}
use mir.Syntax.{w128}
use Rattle.arithmetic.proofs.Lists.{drop_map}
use Rattle.account_need.specs.Prices.{in_code, option_sum, turning_sums, with_bends}
use Rattle.account_need.specs.Rounded.{OptionSum}
use Rattle.account_need.proofs.LineFits.{bound_fits}
use Rattle.account_need.proofs.Turning.{sum_passes, sum_turns}
use Rattle.account_need.proofs.line.with_sums.Goals as goal
use Rattle.account_need.proofs.line.with_sums.Goals.{then-item-lt0, else-item-lt0}

pub loop-item-preserved : goal.loop-item-preserved
loop-item-preserved c =
    let i = c.loop-item.item-index in
    let item = c.item-item.result in
    let best = to_z w128 c.loop-item.best-bits in
    let sums = map option_sum c.args.sums.now in
    let left = drop (i + 1) sums in
    let here : drop i sums ≡ option_sum item ∷ left = drop_map option_sum c.args.sums.now i item (search rules) (search rules) in
    elim c.if-item-lt0.branch [
      | then-item-lt0 w ↦
          let x = w.with_bend-best.result in
          let ex = to_z-of_z w128 x (bound_fits x w.with_bend-best.ensures.small) in
          record {
            bound = λ positions.
                let p = in_code c.args.sums.now positions c.args.live.now in
                rw (w.best-is, ex)
                (c.loop-item.invariant.bound positions
                ∙ ap (λ (ys : List OptionSum). with_bends p best (turning_sums ys)) here
                ∙ sum_turns p best (option_sum item) left (search rules)
                ∙ ap (λ (b : ℤ). with_bends p b (turning_sums left)) (sym (w.with_bend-best.ensures.bound positions)));
            small = rw (w.best-is, ex) w.with_bend-best.ensures.small;
          }
      | else-item-lt0 w ↦ record {
        bound = λ positions.
            let p = in_code c.args.sums.now positions c.args.live.now in
            rw (w.best-is)
            (c.loop-item.invariant.bound positions
            ∙ ap (λ (ys : List OptionSum). with_bends p best (turning_sums ys)) here
            ∙ ap (with_bends p best) (sum_passes (option_sum item) left (search rules)));
        small = rw (w.best-is) c.loop-item.invariant.small;
      }
    ]
