use Rattle.std.proofs.Common.{◌≡◌, drop, map}
use Rattle.std.specs.List.{list_all}
use Rattle.cell_cover.specs.Read.{multiplier_of}
use Rattle.cell_cover.specs.Kinked.{classes_as, knowledge_as}
use Rattle.cell_cover.specs.Walk.{may_stand}
use Rattle.cell_cover.proofs.leaf.may_all_stand.Given as goal

abbrev pub invariant-loop-multiplier : goal.invariant-loop-multiplier
invariant-loop-multiplier l =
    let test = may_stand (classes_as l.kinked) (knowledge_as l.kinked.entries l.known) l.full in
    list_all test (map multiplier_of l.multipliers) ≡ list_all test (drop l.multiplier-index (map multiplier_of l.multipliers))
