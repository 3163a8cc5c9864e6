use Rattle.std.proofs.Common.{◌≡◌, drop}
use Rattle.exact_num.specs.Steps.{fold_steps}
use Rattle.frac.specs.Range.{limit}
use Rattle.cell_cover.specs.Rows.{row_of}
use Rattle.cell_cover.specs.Kinked.{classes_as}
use Rattle.cell_cover.specs.Walk.{root_step}
use Rattle.cell_cover.proofs.closing.root_sums.Given as goal

abbrev pub invariant-loop-class : goal.invariant-loop-class
invariant-loop-class l =
    fold_steps (root_step limit) (row_of l.kinked.entries l.fn.slope) (classes_as l.kinked)
    ≡ fold_steps (root_step limit) (row_of l.kinked.entries l.sums) (drop l.class-index (classes_as l.kinked))
