use Rattle.std.proofs.Common.{◌≡◌, drop, map}
use Rattle.form.specs.Payoff.{legs_in, leg_of}
use Rattle.cell_cover.specs.Classes.{option_in}
use Rattle.cell_cover.specs.Kinked.{all_as}
use Rattle.cell_cover.specs.Rowed.{with_fresh}
use Rattle.cell_cover.proofs.kinks.add_classes.Given as goal

abbrev pub invariant-loop-leg : goal.invariant-loop-leg
invariant-loop-leg l =
    let options = map option_in (map leg_of (legs_in l.fn.order.bundle)) in
    with_fresh (all_as l.count l.fn.classes.items) options ≡ with_fresh (all_as l.count l.classes.items) (drop l.leg-index options)
