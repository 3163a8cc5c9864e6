use Rattle.std.proofs.Common.{◌≡◌, rules, FitsSigned, to_z, of_z, Ok, refl, ap, sym, ◌∙◌, get_or, pos}
use Rattle.std.proofs.lemmas.Int.{to_z-of_z}
use Rattle.std.proofs.lemmas.Result.{err_from_is_err_and}
use mir.Syntax.{w128, w64}
use Rattle.exact_num.specs.Limit.{limit}
use Rattle.exact_num.specs.Fraction.{whole}
use Rattle.exact_num.proofs.Loops.{goes_on, stop_at}
use Rattle.form.specs.Steps.{add_entry, payoff_of}
use Rattle.form.proofs.DotSteps.{entries_first, entry_step, no_entry_left, or_zero_is}
use Rattle.form.proofs.payoffs.payoff_by_steps.Goals as goal

pub returns-in_err-total-clause-payoff : goal.returns-in_err-total-clause-payoff
unfolding payoff_of
returns-in_err-total-clause-payoff c =
    let form = c.args.form.now in
    let state = c.args.state.now in
    let i = c.loop-i.i in
    let fits : FitsSigned w64 (get_or form.entries i (pos 0)) = search rules in
    let fits' : FitsSigned w128 (get_or state.entries i (pos 0)) = search rules in
    let step = entry_step limit form state i _ _ _ c.requires c.loop-i-test.true (to_z-of_z w64 _ fits) (to_z-of_z w128 _ fits') in
    let p = err_from_is_err_and c.from_residual.result c.from_residual.ensures.1 in
    let stop = stop_at whole (add_entry limit) _ c.add_product.result _ _ _ _ c.in_err-total.field-0.0
    (entries_first form state i c.requires c.loop-i-test.true) c.loop-i.invariant.1 (c.add_product.ensures.sum ∙ step) c.in_err-total.was in
    rw (p.1, p.2, stop) refl

pub loop-i-preserved : goal.loop-i-preserved
loop-i-preserved c =
    let form = c.args.form.now in
    let state = c.args.state.now in
    let i = c.loop-i.i in
    let fits : FitsSigned w64 (get_or form.entries i (pos 0)) = search rules in
    let fits' : FitsSigned w128 (get_or state.entries i (pos 0)) = search rules in
    let sum_fits : FitsSigned w128 c.in_ok-total.total = search rules in
    let same : to_z w128 (of_z w128 c.in_ok-total.total) ≡ c.in_ok-total.total = to_z-of_z w128 c.in_ok-total.total sum_fits in
    let step = entry_step limit form state i _ _ _ c.requires c.loop-i-test.true (to_z-of_z w64 _ fits) (to_z-of_z w128 _ fits') in
    let on = goes_on whole (add_entry limit) _ c.in_ok-total.total c.add_product.result _ _ _ _
    (entries_first form state i c.requires c.loop-i-test.true) c.loop-i.invariant.1 (c.add_product.ensures.sum ∙ step) c.in_ok-total.was in
    rw same (c.in_ok-total.ensures.fits, on)

pub returns-clause-payoff : goal.returns-clause-payoff
unfolding payoff_of
returns-clause-payoff c =
    let fits : FitsSigned w128 c.max.result = search rules in
    rw (to_z-of_z w128 c.max.result fits, c.max.ensures.value, c.loop-i.invariant.1, no_entry_left c.args.form.now c.args.state.now c.loop-i.i c.loop-i-test.false)
    (ap (λ x. Ok x) (sym (or_zero_is (to_z w128 c.loop-i.total-bits))))
