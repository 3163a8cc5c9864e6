use Rattle.std.proofs.Common.{◌≡◌, drop, map}
use Rattle.exact_num.specs.Steps.{fold_steps}
use Rattle.frac.specs.Range.{limit}
use Rattle.frac.specs.Value.{fraction_of}
use Rattle.cell_cover.specs.Read.{multiplier_of}
use Rattle.cell_cover.specs.Kinked.{classes_as, knowledge_as}
use Rattle.cell_cover.specs.Walk.{add_multiplier}
use Rattle.cell_cover.proofs.leaf.add_multipliers.Given as goal

abbrev pub invariant-loop-multiplier : goal.invariant-loop-multiplier
invariant-loop-multiplier l =
    let step = add_multiplier limit (classes_as l.kinked) (knowledge_as l.kinked.entries l.known) l.i in
    fold_steps step (fraction_of l.fn.start) (map multiplier_of l.multipliers) ≡ fold_steps step (fraction_of l.total) (drop l.multiplier-index (map multiplier_of l.multipliers))
