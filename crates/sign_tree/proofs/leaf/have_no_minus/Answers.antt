use Rattle.std.proofs.Common.{sym, ◌∙◌}
use Rattle.sign_tree.specs.Walk.{has_no_minus}
use Rattle.sign_tree.proofs.MultiplierSteps.{all_ends, all_on}
use Rattle.sign_tree.proofs.leaf.have_no_minus.Goals as goal

pub returns-then-not-has_no_minus : goal.returns-then-not-has_no_minus
returns-then-not-has_no_minus c =
    let test = has_no_minus in
    sym (c.loop-multiplier.invariant ∙ all_ends test c.args.multipliers.now c.loop-multiplier.multiplier-index c.multiplier-item.result (record { within = c.loop-multiplier-test.true; is = c.multiplier-item.is }) (sym c.has_no_minus.ensures ∙ c.if-not-has_no_minus.true))

pub loop-multiplier-preserved : goal.loop-multiplier-preserved
loop-multiplier-preserved c =
    let test = has_no_minus in
    c.loop-multiplier.invariant ∙ all_on test c.args.multipliers.now c.loop-multiplier.multiplier-index c.multiplier-item.result (record { within = c.loop-multiplier-test.true; is = c.multiplier-item.is }) (sym c.has_no_minus.ensures ∙ c.if-not-has_no_minus.false)
