use Rattle.std.proofs.Common.{◌≡◌, drop}
use Rattle.std.specs.List.{list_all}
use Rattle.cell_cover.specs.Kinked.{classes_as, knowledge_as}
use Rattle.cell_cover.specs.Walk.{may_be_full}
use Rattle.cell_cover.proofs.leaf.may_all_be_full.Given as goal

abbrev pub invariant-loop-class : goal.invariant-loop-class
invariant-loop-class l =
    let test = may_be_full (classes_as l.kinked) (knowledge_as l.kinked.entries l.known) in
    list_all test l.full ≡ list_all test (drop l.class-index l.full)
