use Rattle.std.proofs.Common.{ap, sym, ◌∙◌}
use Rattle.arithmetic.proofs.Lists.{drop_map_end}
use Rattle.sign_tree.specs.Read.{placed_of}
use Rattle.sign_tree.specs.Walk.{places_rise}
use Rattle.sign_tree.proofs.MultiplierSteps.{rise_ends, rise_on}
use Rattle.sign_tree.proofs.leaf.places_rise.Goals as goal

pub returns-then-multiplier-last : goal.returns-then-multiplier-last
returns-then-multiplier-last c =
    sym (c.loop-multiplier.invariant ∙ rise_ends c.args.multipliers.now c.loop-multiplier.multiplier-index c.loop-multiplier.last c.multiplier-item.result (record { within = c.loop-multiplier-test.true; is = c.multiplier-item.is }) c.if-multiplier-last.true)

pub loop-multiplier-preserved : goal.loop-multiplier-preserved
loop-multiplier-preserved c =
    c.loop-multiplier.invariant ∙ rise_on c.args.multipliers.now c.loop-multiplier.multiplier-index c.loop-multiplier.last c.multiplier-item.result (record { within = c.loop-multiplier-test.true; is = c.multiplier-item.is }) c.if-multiplier-last.false

pub returns : goal.returns
returns c =
    let ended = drop_map_end placed_of c.args.multipliers.now c.loop-multiplier.multiplier-index c.loop-multiplier-test.false in
    sym (c.loop-multiplier.invariant ∙ ap (places_rise c.loop-multiplier.last) ended)
