use Rattle.std.proofs.Common.{◌∙◌}
use Rattle.std.proofs.lemmas.List.{drop_all}
use Rattle.arithmetic.proofs.Lists.{number_next}
use Rattle.exact_num.proofs.Loops.{goes_on, stops, ends}
use Rattle.frac.specs.Range.{limit}
use Rattle.frac.specs.Value.{fraction_of}
use Rattle.cell_cover.specs.Kinked.{classes_as}
use Rattle.cell_cover.specs.Walk.{add_full}
use Rattle.cell_cover.proofs.Mixes.{kink_added}
use Rattle.cell_cover.proofs.leaf.add_full.Goals as goal

pub returns-in_err-total : goal.returns-in_err-total
returns-in_err-total c =
    let kinked = c.args.kinked in
    let first = number_next c.args.full.now c.loop-class.class-index c.loop-class-test.true in
    let added = c.plus_product.ensures ∙ kink_added limit (classes_as kinked) _ c.args.i (fraction_of c.loop-class.total) _ _ (c.kink_at-kink.ensures kinked.entries) c.entry_at.ensures in
    stops fraction_of (add_full limit (classes_as kinked) c.args.i) c.loop-class.total c.plus_product.result _ _ _ _ _ c.in_err-total.field-0.0 first c.loop-class.invariant added c.in_err-total.was c.from_residual.ensures.1

pub loop-class-preserved : goal.loop-class-preserved
loop-class-preserved c =
    let kinked = c.args.kinked in
    let first = number_next c.args.full.now c.loop-class.class-index c.loop-class-test.true in
    let added = c.plus_product.ensures ∙ kink_added limit (classes_as kinked) _ c.args.i (fraction_of c.loop-class.total) _ _ (c.kink_at-kink.ensures kinked.entries) c.entry_at.ensures in
    goes_on fraction_of (add_full limit (classes_as kinked) c.args.i) c.loop-class.total c.in_ok-total.total c.plus_product.result _ _ _ _ first c.loop-class.invariant added c.in_ok-total.was

pub returns : goal.returns
returns c =
    ends fraction_of (add_full limit (classes_as c.args.kinked) c.args.i) c.loop-class.total _ _ (drop_all c.loop-class.class-index c.args.full.now c.loop-class-test.false) c.loop-class.invariant
