use Rattle.std.proofs.Common.{sym, ◌∙◌}
use Rattle.cell_cover.proofs.Items.{class_next, rise_stops, rise_goes}
use Rattle.cell_cover.proofs.formed.multipliers_rise.Goals as goal

pub returns-then-not-follows : goal.returns-then-not-follows
returns-then-not-follows c =
    let here = class_next c.args.multipliers.now c.loop-multiplier.multiplier-index c.multiplier-item.result (record { within = c.loop-multiplier-test.true; is = c.multiplier-item.is }) in
    sym (c.loop-multiplier.invariant ∙ rise_stops c.args.count c.loop-multiplier.last _ _ _ here (sym c.follows.ensures ∙ c.if-not-follows.true))

pub loop-multiplier-preserved : goal.loop-multiplier-preserved
loop-multiplier-preserved c =
    let here = class_next c.args.multipliers.now c.loop-multiplier.multiplier-index c.multiplier-item.result (record { within = c.loop-multiplier-test.true; is = c.multiplier-item.is }) in
    c.loop-multiplier.invariant ∙ rise_goes c.args.count c.loop-multiplier.last _ _ _ here (sym c.follows.ensures ∙ c.if-not-follows.false)
