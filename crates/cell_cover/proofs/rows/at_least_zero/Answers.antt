use Rattle.std.proofs.Common.{◌≤◌, length, get_or, arith, ap, ◌∙◌, pos}
use Rattle.exact_num.specs.Fraction.{whole}
use Rattle.exact_num.specs.Tests.{greater_of}
use Rattle.frac.specs.Value.{fraction_of}
use Rattle.cell_cover.proofs.RowLoops.{map_next, mapped_more}
use Rattle.cell_cover.proofs.rows.at_least_zero.Goals as goal

pub loop-i-preserved : goal.loop-i-preserved
loop-i-preserved c =
    let entries = c.args.entries.now in
    let le : c.args.count ≤ length entries.entries = omega (arith, entries.nine_entries, c.requires) in
    let here = map_next fraction_of entries.entries c.args.count c.loop-i.i c.index-entries-i.result c.loop-i-test.true le in
    mapped_more (greater_of (whole (pos 0))) _ c.loop-i.made c.loop-i.i _ c.greater.result c.loop-i.invariant here (omega (arith, c.loop-i-test.true, c.requires)) (c.greater.ensures ∙ ap (λ z. greater_of z (fraction_of (get_or entries.entries c.loop-i.i c.index-entries-i.result))) c.zero.ensures)
