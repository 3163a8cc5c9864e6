use Rattle.std.proofs.Common.{◌≡◌, rules, arith, FitsSigned, to_z, of_z, Ok, refl}
use Rattle.std.proofs.lemmas.Int.{to_z-of_z}
use mir.Syntax.{w128}
use Rattle.arithmetic.proofs.Lists.{drop_map, drop_map_end}
use Rattle.exact_num.specs.Limit.{limit}
use Rattle.exact_num.specs.Fraction.{whole}
use Rattle.exact_num.proofs.Loops.{goes_on, ends}
use Rattle.form.specs.Payoff.{leg_of, legs_in}
use Rattle.form.specs.States.{vector_of}
use Rattle.form.specs.Steps.{add_leg, bundle_payoff_of}
use Rattle.form.proofs.payoffs.short_bundle_payoff.Goals as goal

pub loop-leg-preserved : goal.loop-leg-preserved
loop-leg-preserved c =
    let step = add_leg limit (vector_of c.args.state.now) in
    let sum_fits : FitsSigned w128 c.in_ok-total.total = search rules in
    let same : to_z w128 (of_z w128 c.in_ok-total.total) ≡ c.in_ok-total.total = to_z-of_z w128 c.in_ok-total.total sum_fits in
    let here = drop_map leg_of (legs_in c.args.bundle.now) c.loop-leg.leg-index c.leg-item.result (search rules) (search rules) in
    let on = goes_on whole step _ c.in_ok-total.total (Ok c.in_ok-total.total) _ _ _ _ here c.loop-leg.invariant.1 c.in_ok-total.ensures.sum refl in
    rw same (omega (arith, c.in_ok-total.ensures.size, c.loop-leg.invariant.0), on)

pub returns-clause-payoff : goal.returns-clause-payoff
unfolding bundle_payoff_of
returns-clause-payoff c =
    let step = add_leg limit (vector_of c.args.state.now) in
    ends whole step (to_z w128 c.loop-leg.total-bits) _ _ (drop_map_end leg_of (legs_in c.args.bundle.now) c.loop-leg.leg-index (search rules)) c.loop-leg.invariant.1
