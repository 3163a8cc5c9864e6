use Rattle.std.proofs.Common.{map, sym, ◌∙◌}
use Rattle.frac.specs.Value.{fraction_of}
use Rattle.sign_tree.specs.Read.{sign_of}
use Rattle.sign_tree.specs.Walk.{fraction_legs, may_carry}
use Rattle.sign_tree.proofs.MultiplierSteps.{all_ends, all_on}
use Rattle.sign_tree.proofs.leaf.may_all_carry.Goals as goal

pub returns-then-not-may_carry : goal.returns-then-not-may_carry
returns-then-not-may_carry c =
    let test = may_carry (fraction_legs c.args.orders.now (map fraction_of c.args.fills.now)) (map sign_of c.args.signs.now) in
    sym (c.loop-multiplier.invariant ∙ all_ends test c.args.multipliers.now c.loop-multiplier.multiplier-index c.multiplier-item.result (record { within = c.loop-multiplier-test.true; is = c.multiplier-item.is }) (sym c.may_carry.ensures ∙ c.if-not-may_carry.true))

pub loop-multiplier-preserved : goal.loop-multiplier-preserved
loop-multiplier-preserved c =
    let test = may_carry (fraction_legs c.args.orders.now (map fraction_of c.args.fills.now)) (map sign_of c.args.signs.now) in
    c.loop-multiplier.invariant ∙ all_on test c.args.multipliers.now c.loop-multiplier.multiplier-index c.multiplier-item.result (record { within = c.loop-multiplier-test.true; is = c.multiplier-item.is }) (sym c.may_carry.ensures ∙ c.if-not-may_carry.false)
