use Rattle.std.proofs.Common.{◌≡◌, [], drop}
use Rattle.cell_cover.specs.Classes.{options_in}
use Rattle.cell_cover.specs.Kinked.{all_as}
use Rattle.cell_cover.specs.Rowed.{with_fresh}
use Rattle.cell_cover.proofs.kinks.classes_of.Given as goal

abbrev pub invariant-loop-order : goal.invariant-loop-order
invariant-loop-order l = with_fresh [] (options_in l.orders) ≡ with_fresh (all_as l.count l.classes.items) (options_in (drop l.order-index l.orders))
