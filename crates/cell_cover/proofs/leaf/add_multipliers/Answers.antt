use Rattle.std.proofs.Common.{◌∙◌}
use Rattle.arithmetic.proofs.Lists.{drop_map, drop_map_end}
use Rattle.exact_num.proofs.Loops.{goes_on, stops, ends}
use Rattle.frac.specs.Range.{limit}
use Rattle.frac.specs.Value.{fraction_of}
use Rattle.cell_cover.specs.Closed.{known_at}
use Rattle.cell_cover.specs.Read.{multiplier_of}
use Rattle.cell_cover.specs.Kinked.{classes_as, knowledge_as}
use Rattle.cell_cover.specs.Walk.{add_multiplier}
use Rattle.cell_cover.proofs.Mixes.{multiple_added}
use Rattle.cell_cover.proofs.leaf.add_multipliers.Goals as goal

pub returns-in_err-total : goal.returns-in_err-total
returns-in_err-total c =
    let kinked = c.args.kinked in
    let m = c.multiplier-item.result in
    let known = knowledge_as kinked.entries c.args.known.now in
    let first = drop_map multiplier_of c.args.multipliers.now c.loop-multiplier.multiplier-index m c.loop-multiplier-test.true c.multiplier-item.is in
    let added = c.add_signed.ensures ∙ multiple_added limit (known_at known m.class) _ (fraction_of c.loop-multiplier.total) (fraction_of m.by) _ _ (c.counted_sign-sign.ensures kinked.entries) c.entry_at-entry.ensures in
    stops fraction_of (add_multiplier limit (classes_as kinked) known c.args.i) c.loop-multiplier.total c.add_signed.result _ _ _ _ _ c.in_err-total.field-0.0 first c.loop-multiplier.invariant added c.in_err-total.was c.from_residual.ensures.1

pub loop-multiplier-preserved : goal.loop-multiplier-preserved
loop-multiplier-preserved c =
    let kinked = c.args.kinked in
    let m = c.multiplier-item.result in
    let known = knowledge_as kinked.entries c.args.known.now in
    let first = drop_map multiplier_of c.args.multipliers.now c.loop-multiplier.multiplier-index m c.loop-multiplier-test.true c.multiplier-item.is in
    let added = c.add_signed.ensures ∙ multiple_added limit (known_at known m.class) _ (fraction_of c.loop-multiplier.total) (fraction_of m.by) _ _ (c.counted_sign-sign.ensures kinked.entries) c.entry_at-entry.ensures in
    goes_on fraction_of (add_multiplier limit (classes_as kinked) known c.args.i) c.loop-multiplier.total c.in_ok-total.total c.add_signed.result _ _ _ _ first c.loop-multiplier.invariant added c.in_ok-total.was

pub returns : goal.returns
returns c =
    let kinked = c.args.kinked in
    let known = knowledge_as kinked.entries c.args.known.now in
    ends fraction_of (add_multiplier limit (classes_as kinked) known c.args.i) c.loop-multiplier.total _ _ (drop_map_end multiplier_of c.args.multipliers.now c.loop-multiplier.multiplier-index c.loop-multiplier-test.false) c.loop-multiplier.invariant
