use Rattle.std.proofs.Common.{◌≡◌, drop}
use Rattle.exact_num.specs.Steps.{fold_steps}
use Rattle.frac.specs.Range.{limit}
use Rattle.frac.specs.Value.{fraction_of}
use Rattle.cell_cover.specs.Kinked.{classes_as}
use Rattle.cell_cover.specs.Walk.{add_full}
use Rattle.cell_cover.proofs.leaf.add_full.Given as goal

abbrev pub invariant-loop-class : goal.invariant-loop-class
invariant-loop-class l =
    let step = add_full limit (classes_as l.kinked) l.i in
    fold_steps step (fraction_of l.fn.start) l.full ≡ fold_steps step (fraction_of l.total) (drop l.class-index l.full)
