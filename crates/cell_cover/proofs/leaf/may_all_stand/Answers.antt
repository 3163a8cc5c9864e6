use Rattle.std.proofs.Common.{sym, ◌∙◌}
use Rattle.cell_cover.specs.Read.{multiplier_of}
use Rattle.cell_cover.specs.Kinked.{classes_as, knowledge_as}
use Rattle.cell_cover.specs.Walk.{may_stand}
use Rattle.cell_cover.proofs.Items.{all_ends, all_on}
use Rattle.cell_cover.proofs.leaf.may_all_stand.Goals as goal

pub returns-then-not-may_stand : goal.returns-then-not-may_stand
returns-then-not-may_stand c =
    let test = may_stand (classes_as c.args.kinked) (knowledge_as c.args.kinked.entries c.args.known.now) c.args.full.now in
    sym (c.loop-multiplier.invariant ∙ all_ends multiplier_of test c.args.multipliers.now c.loop-multiplier.multiplier-index c.multiplier-item.result (record { within = c.loop-multiplier-test.true; is = c.multiplier-item.is }) (sym c.may_stand.ensures ∙ c.if-not-may_stand.true))

pub loop-multiplier-preserved : goal.loop-multiplier-preserved
loop-multiplier-preserved c =
    let test = may_stand (classes_as c.args.kinked) (knowledge_as c.args.kinked.entries c.args.known.now) c.args.full.now in
    c.loop-multiplier.invariant ∙ all_on multiplier_of test c.args.multipliers.now c.loop-multiplier.multiplier-index c.multiplier-item.result (record { within = c.loop-multiplier-test.true; is = c.multiplier-item.is }) (sym c.may_stand.ensures ∙ c.if-not-may_stand.false)
