use Rattle.std.proofs.Common.{ap, ◌∙◌}
use Rattle.arithmetic.proofs.Lists.{drop_map}
use Rattle.exact_num.proofs.Loops.{goes_on, stops}
use Rattle.frac.specs.Range.{limit}
use Rattle.frac.specs.Value.{fraction_of}
use Rattle.cell_cover.specs.Closed.{Plus}
use Rattle.cell_cover.specs.Mixed.{bound_by}
use Rattle.cell_cover.specs.Rows.{class_as, row_of}
use Rattle.cell_cover.specs.Walk.{root_step}
use Rattle.cell_cover.proofs.closing.root_sums.Goals as goal

pub returns-in_err-sums : goal.returns-in_err-sums
returns-in_err-sums c =
    let n = c.args.kinked.entries in
    let class = c.class-item.result in
    let first = drop_map (class_as n) c.args.kinked.classes.now c.loop-class.class-index class c.loop-class-test.true c.class-item.is in
    let made = c.with_bound.ensures ∙ ap (λ w. bound_by limit Plus (fraction_of class.kink) w (row_of n c.loop-class.sums)) c.at_least_zero-bound.ensures in
    stops (row_of n) (root_step limit) c.loop-class.sums c.with_bound.result _ _ _ _ _ c.in_err-sums.field-0.0 first c.loop-class.invariant made c.in_err-sums.was c.from_residual.ensures.1

pub loop-class-preserved : goal.loop-class-preserved
loop-class-preserved c =
    let n = c.args.kinked.entries in
    let class = c.class-item.result in
    let first = drop_map (class_as n) c.args.kinked.classes.now c.loop-class.class-index class c.loop-class-test.true c.class-item.is in
    let made = c.with_bound.ensures ∙ ap (λ w. bound_by limit Plus (fraction_of class.kink) w (row_of n c.loop-class.sums)) c.at_least_zero-bound.ensures in
    goes_on (row_of n) (root_step limit) c.loop-class.sums c.in_ok-sums.sums c.with_bound.result _ _ _ _ first c.loop-class.invariant made c.in_ok-sums.was
