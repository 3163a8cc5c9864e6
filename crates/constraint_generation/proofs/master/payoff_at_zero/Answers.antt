use Rattle.std.proofs.Common.{rules, ◌≡◌, ◌+ℤ◌, FitsSigned, to_z, arith, sym, ap, ◌∙◌}
use Rattle.std.proofs.lemmas.Int.{ints, to_z-of_z}
use mir.Syntax.{w128}
use Rattle.arithmetic.proofs.Lists.{drop_map, drop_map_end}
use Rattle.form.specs.Vector.{over_legs}
use Rattle.form.specs.Payoff.{leg_of, legs_in, bundle_legs}
use Rattle.form.proofs.BundleLegs.{bundle_of-legs}
use Rattle.master_program.specs.Master.{strike_payoff, payoff_at_zero}
use Rattle.constraint_generation.proofs.master.payoff_at_zero.Goals as goal

pub loop-leg-preserved : goal.loop-leg-preserved
loop-leg-preserved c =
    let l = c.loop-leg in
    let t = to_z w128 l.total-bits in
    let p = c.leg_payoff-total.result in
    let fits : FitsSigned w128 p = search rules in
    let sum_fits : FitsSigned w128 (t +ℤ p) = search rules in
    let first = drop_map leg_of (legs_in c.args.order.now.bundle) l.leg-index c.leg-item.result (search rules) (search rules) in
    rw (to_z-of_z w128 p fits, to_z-of_z w128 (t +ℤ p) sum_fits) record {
      small = omega (arith, ints, l.invariant.small, c.leg_payoff-total.ensures.small);
      total = omega (arith, ints, ap (over_legs strike_payoff) first, c.leg_payoff-total.ensures.payoff, l.invariant.total);
    }

pub returns : goal.returns
unfolding payoff_at_zero
returns c =
    let l = c.loop-leg in
    let order = c.args.order.now in
    let none = drop_map_end leg_of (legs_in order.bundle) l.leg-index (search rules) in
    let all : to_z w128 l.total-bits ≡ over_legs strike_payoff (bundle_legs order.bundle) = omega (arith, ints, ap (over_legs strike_payoff) none, l.invariant.total) in
    all ∙ sym (ap (over_legs strike_payoff) (bundle_of-legs order))
