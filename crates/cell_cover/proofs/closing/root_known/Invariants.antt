use Rattle.std.proofs.Common.{◌≡◌, map, take}
use Rattle.cell_cover.specs.Kinked.{all_as, knowledge_as}
use Rattle.cell_cover.specs.Walk.{root_known}
use Rattle.cell_cover.proofs.closing.root_known.Given as goal

abbrev pub invariant-loop-class : goal.invariant-loop-class
invariant-loop-class l = knowledge_as l.entries l.known.items ≡ map root_known (all_as l.entries (take l.class-index l.classes))
