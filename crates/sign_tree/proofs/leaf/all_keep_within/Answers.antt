use Rattle.std.proofs.Common.{map, ap, Ok, sym, ◌∙◌}
use Rattle.std.proofs.lemmas.Result.{err_from_is_err_and}
use Rattle.frac.specs.Range.{limit}
use Rattle.frac.specs.Value.{fraction_of}
use Rattle.sign_tree.specs.Walk.{fraction_legs, keeps_within}
use Rattle.sign_tree.proofs.MultiplierSteps.{steps_end, steps_stop, steps_on}
use Rattle.sign_tree.proofs.leaf.all_keep_within.Goals as goal

pub returns-in_err-keeps_within : goal.returns-in_err-keeps_within
returns-in_err-keeps_within c =
    let p = err_from_is_err_and c.from_residual.result c.from_residual.ensures.1 in
    let test = keeps_within limit (fraction_legs c.args.orders.now (map fraction_of c.args.fills.now)) in
    let stop = steps_stop test c.args.multipliers.now c.loop-multiplier.multiplier-index c.multiplier-item.result c.in_err-keeps_within.field-0.0 (record { within = c.loop-multiplier-test.true; is = c.multiplier-item.is }) (sym c.keeps_within.ensures ∙ c.in_err-keeps_within.was) in
    rw (p.1, p.2) (sym (c.loop-multiplier.invariant ∙ stop))

pub returns-then-not-branch : goal.returns-then-not-branch
returns-then-not-branch c =
    let test = keeps_within limit (fraction_legs c.args.orders.now (map fraction_of c.args.fills.now)) in
    let fails = sym c.keeps_within.ensures ∙ c.in_ok-keeps_within.was ∙ ap Ok c.if-not-branch.true in
    sym (c.loop-multiplier.invariant ∙ steps_end test c.args.multipliers.now c.loop-multiplier.multiplier-index c.multiplier-item.result (record { within = c.loop-multiplier-test.true; is = c.multiplier-item.is }) fails)

pub loop-multiplier-preserved : goal.loop-multiplier-preserved
loop-multiplier-preserved c =
    let test = keeps_within limit (fraction_legs c.args.orders.now (map fraction_of c.args.fills.now)) in
    let holds = sym c.keeps_within.ensures ∙ c.in_ok-keeps_within.was ∙ ap Ok c.if-not-branch.false in
    c.loop-multiplier.invariant ∙ steps_on test c.args.multipliers.now c.loop-multiplier.multiplier-index c.multiplier-item.result (record { within = c.loop-multiplier-test.true; is = c.multiplier-item.is }) holds
