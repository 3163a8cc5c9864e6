use Rattle.std.proofs.Common.{◌≡◌, ◌≤◌, length, map, take, arith, sym, ap, ◌∙◌}
use Rattle.frac.specs.Value.{fraction_of}
use Rattle.cell_cover.proofs.RowLoops.{zip_next, zip_length, mapped_more, mapped_end}
use Rattle.cell_cover.proofs.rows.greater_each.Goals as goal

pub loop-i-preserved : goal.loop-i-preserved
loop-i-preserved c =
    let first = c.args.first.now in
    let second = c.args.second.now in
    let le : c.args.count ≤ length first.entries = omega (arith, first.nine_entries, c.requires) in
    let le2 : c.args.count ≤ length second.entries = omega (arith, second.nine_entries, c.requires) in
    let here = zip_next fraction_of first.entries second.entries c.args.count c.loop-i.i c.index-first-i.result c.index-second-i.result c.loop-i-test.true le le2 in
    mapped_more _ _ c.loop-i.made c.loop-i.i _ c.greater.result c.loop-i.invariant here (omega (arith, c.loop-i-test.true, c.requires)) c.greater.ensures

pub returns : goal.returns
returns c =
    let e : c.loop-i.i ≡ c.args.count = omega (arith, c.loop-i-test.false, c.loop-i.auto.i-end) in
    sym (mapped_end _ _ c.loop-i.made c.loop-i.i c.loop-i.invariant (omega (arith, zip_length fraction_of c.args.first.now.entries c.args.second.now.entries c.args.count)) ∙ ap (λ k. map fraction_of (take k c.loop-i.made)) e)
