use Rattle.std.proofs.Common.{to_z, ◌+◌, ℤ, drop, ap, sym, rules, ◌∙◌}
use Rattle.std.proofs.lemmas.Int.{to_z-of_z}
use mir.Syntax.{w128}
use Rattle.form.specs.Payoff.{BundleLeg, bundle_legs, leg_of, legs_in}
use Rattle.account_need.specs.Prices.{in_code, with_bends}
use Rattle.account_need.specs.Rounded.{options_of}
use Rattle.account_need.proofs.LineBounds.{drop_maps}
use Rattle.account_need.proofs.LineFits.{bound_fits}
use Rattle.account_need.proofs.line.with_bundle.Goals as goal

pub loop-leg-preserved : goal.loop-leg-preserved
loop-leg-preserved c =
    let i = c.loop-leg.leg-index in
    let x = c.with_bend-best.result in
    let ex = to_z-of_z w128 x (bound_fits x c.with_bend-best.ensures.small) in
    let legs = legs_in c.args.bundle.now in
    let rest = drop (i + 1) (options_of (bundle_legs c.args.bundle.now)) in
    let here = drop_maps (λ (leg : BundleLeg). leg.option) leg_of legs i c.leg-item.result (search rules) (search rules) in
    record {
      bound = λ positions.
          let p = in_code c.args.sums.now positions c.args.live.now in
          rw (ex) (c.loop-leg.invariant.bound positions ∙ ap (with_bends p (to_z w128 c.loop-leg.best-bits)) here ∙ ap (λ (b : ℤ). with_bends p b rest) (sym (c.with_bend-best.ensures.bound positions)));
      small = rw (ex) c.with_bend-best.ensures.small;
    }
