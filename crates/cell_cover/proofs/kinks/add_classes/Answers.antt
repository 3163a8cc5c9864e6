use Rattle.std.proofs.Common.{◌≤◌, length, map, ap, sym, ◌∙◌, arith}
use Rattle.std.proofs.lemmas.List.{drop_all, length-map}
use Rattle.form.specs.Payoff.{legs_in, leg_of}
use Rattle.cell_cover.specs.Classes.{option_in}
use Rattle.cell_cover.specs.Kinked.{all_as}
use Rattle.cell_cover.specs.Rowed.{with_fresh}
use Rattle.cell_cover.proofs.Rowing.{fresh_end, options_of_order}
use Rattle.cell_cover.proofs.kinks.add_classes.Goals as goal

pub returns : goal.returns
returns c =
    let n = c.args.count in
    let order = c.args.order.now in
    let legs = legs_in order.bundle in
    let options = map option_in (map leg_of legs) in
    let le : length options ≤ c.loop-leg.leg-index = omega (arith, length-map (map leg_of legs) option_in, length-map legs leg_of, c.loop-leg-test.false, ap length c.as_slice-leg-items.ensures) in
    sym (ap (with_fresh (all_as n c.args.classes.now.items)) (options_of_order order) ∙ c.loop-leg.invariant ∙ fresh_end (all_as n c.loop-leg.classes.items) _ (drop_all c.loop-leg.leg-index options le))
