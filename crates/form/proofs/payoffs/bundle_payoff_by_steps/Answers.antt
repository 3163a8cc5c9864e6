use Rattle.std.proofs.Common.{◌≡◌, rules, FitsSigned, to_z, of_z}
use Rattle.std.proofs.lemmas.Int.{to_z-of_z}
use mir.Syntax.{w128}
use Rattle.arithmetic.proofs.Lists.{drop_map, drop_map_end}
use Rattle.exact_num.specs.Limit.{limit}
use Rattle.exact_num.specs.Fraction.{whole}
use Rattle.exact_num.proofs.Loops.{goes_on, stops, ends}
use Rattle.form.specs.Payoff.{leg_of, legs_in}
use Rattle.form.specs.States.{vector_of}
use Rattle.form.specs.Steps.{add_leg, bundle_payoff_of}
use Rattle.form.proofs.payoffs.bundle_payoff_by_steps.Goals as goal

pub returns-in_err-total-clause-payoff : goal.returns-in_err-total-clause-payoff
unfolding bundle_payoff_of
returns-in_err-total-clause-payoff c =
    let step = add_leg limit (vector_of c.args.state.now) in
    let here = drop_map leg_of (legs_in c.args.bundle.now) c.loop-leg.leg-index c.leg-item.result (search rules) (search rules) in
    stops whole step _ c.add_leg.result c.from_residual.result _ _ _ _ _ here c.loop-leg.invariant.1 c.add_leg.ensures.sum c.in_err-total.was c.from_residual.ensures.1

pub loop-leg-preserved : goal.loop-leg-preserved
loop-leg-preserved c =
    let step = add_leg limit (vector_of c.args.state.now) in
    let sum_fits : FitsSigned w128 c.in_ok-total.total = search rules in
    let same : to_z w128 (of_z w128 c.in_ok-total.total) ≡ c.in_ok-total.total = to_z-of_z w128 c.in_ok-total.total sum_fits in
    let here = drop_map leg_of (legs_in c.args.bundle.now) c.loop-leg.leg-index c.leg-item.result (search rules) (search rules) in
    let on = goes_on whole step _ c.in_ok-total.total c.add_leg.result _ _ _ _ here c.loop-leg.invariant.1 c.add_leg.ensures.sum c.in_ok-total.was in
    rw same (c.in_ok-total.ensures.fits, on)

pub returns-clause-payoff : goal.returns-clause-payoff
unfolding bundle_payoff_of
returns-clause-payoff c =
    let step = add_leg limit (vector_of c.args.state.now) in
    ends whole step (to_z w128 c.loop-leg.total-bits) _ _ (drop_map_end leg_of (legs_in c.args.bundle.now) c.loop-leg.leg-index (search rules)) c.loop-leg.invariant.1
