use Rattle.std.proofs.Common.{map, sym, ap, ◌∙◌}
use Rattle.exact_num.specs.Fits.{meaning}
use Rattle.frac.specs.Range.{limit}
use Rattle.frac.specs.Value.{fraction_of}
use Rattle.cell_cover.specs.Read.{multiplier_of}
use Rattle.cell_cover.specs.Kinked.{cell_as, classes_as}
use Rattle.cell_cover.proofs.Mixes.{entries_step}
use Rattle.cell_cover.proofs.leaf.entries_close.Goals as goal

pub loop-i-preserved : goal.loop-i-preserved
loop-i-preserved c =
    let kinked = c.args.kinked in
    c.loop-i.invariant ∙ entries_step limit (classes_as kinked) (fraction_of kinked.liability.now) (cell_as kinked.entries c.args.cell) c.args.full.now (map multiplier_of c.args.multipliers.now)
    c.loop-i.i kinked.entries (fraction_of c.in_ok-sum.sum) c.loop-i-test.true (sym c.entry_sum.ensures ∙ ap (meaning fraction_of) c.in_ok-sum.was) (sym c.is_above_zero.ensures ∙ c.if-is_above_zero.false)
