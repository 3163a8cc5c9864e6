use Rattle.std.proofs.Common.{◌≡◌, rules, arith, FitsSigned, to_z, of_z, Ok, refl, ap, sym, ◌∙◌, get_or, pos}
use Rattle.std.proofs.lemmas.Int.{to_z-of_z}
use mir.Syntax.{w128, w64, w32}
use Rattle.exact_num.specs.Limit.{limit}
use Rattle.exact_num.specs.Fraction.{whole}
use Rattle.exact_num.proofs.Loops.{goes_on}
use Rattle.form.specs.Steps.{add_entry, payoff_of}
use Rattle.form.proofs.DotSteps.{entries_first, entry_step, no_entry_left, or_zero_is}
use Rattle.form.proofs.payoffs.short_payoff.Goals as goal

pub loop-i-preserved : goal.loop-i-preserved
loop-i-preserved c =
    let form = c.args.form.now in
    let state = c.args.state.now in
    let i = c.loop-i.i in
    let total = c.add_short_product-total in
    let entry : c.in_ok-entry.entry ≡ get_or state.entries i (pos 0) = search rules in
    let fits : FitsSigned w64 (get_or form.entries i (pos 0)) = search rules in
    let fits' : FitsSigned w32 c.in_ok-entry.entry = search rules in
    let sum_fits : FitsSigned w128 total.result = search rules in
    let same : to_z w128 (of_z w128 total.result) ≡ total.result = to_z-of_z w128 total.result sum_fits in
    let step = entry_step limit form state i _ _ _ c.requires c.loop-i-test.true (to_z-of_z w64 _ fits) (to_z-of_z w32 _ fits' ∙ entry) in
    let on = goes_on whole (add_entry limit) _ total.result (Ok total.result) _ _ _ _
    (entries_first form state i c.requires c.loop-i-test.true) c.loop-i.invariant.1 (total.ensures.sum ∙ step) refl in
    rw same (omega (arith, total.ensures.size, c.loop-i.invariant.0), on)

pub returns-clause-payoff : goal.returns-clause-payoff
unfolding payoff_of
returns-clause-payoff c =
    let fits : FitsSigned w128 c.max.result = search rules in
    rw (to_z-of_z w128 c.max.result fits, c.max.ensures.value, c.loop-i.invariant.1, no_entry_left c.args.form.now c.args.state.now c.loop-i.i c.loop-i-test.false)
    (ap (λ x. Ok x) (sym (or_zero_is (to_z w128 c.loop-i.total-bits))))
