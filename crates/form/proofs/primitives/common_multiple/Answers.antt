use Rattle.std.proofs.Common.{unsigned_abs, sym}
use Rattle.arithmetic.proofs.Lists.{drop_map}
use Rattle.exact_num.proofs.Loops.{goes_on, stops}
use Rattle.form.specs.Primitive.{multiple_with}
use Rattle.form.proofs.Multiples.{multiple_positive}
use Rattle.form.proofs.primitives.common_multiple.Goals as goal

pub returns-in_err-multiple-clause-multiple : goal.returns-in_err-multiple-clause-multiple
returns-in_err-multiple-clause-multiple g c =
    let value = g.N.Exact.fraction in
    let here = drop_map value c.args.entries.now c.loop-entry.entry-index c.entry-item.result c.loop-entry-test.true c.entry-item.is in
    stops value (multiple_with (unsigned_abs g.N.Exact.LIMIT)) c.loop-entry.multiple c.with_denominator.result c.from_residual.result _ _ _ _ _ here c.loop-entry.invariant.1 c.with_denominator.ensures c.in_err-multiple.was c.from_residual.ensures.1

pub loop-entry-preserved : goal.loop-entry-preserved
loop-entry-preserved g c =
    let value = g.N.Exact.fraction in
    let limit = unsigned_abs g.N.Exact.LIMIT in
    let here = drop_map value c.args.entries.now c.loop-entry.entry-index c.entry-item.result c.loop-entry-test.true c.entry-item.is in (
      multiple_positive limit (value c.loop-entry.multiple) (value c.entry-item.result) (value c.in_ok-multiple.multiple) c.loop-entry.invariant.0 (sym c.in_ok-multiple.ensures) (g.met.N.Exact.lowest c.entry-item.result).positive,
      goes_on value (multiple_with limit) c.loop-entry.multiple c.in_ok-multiple.multiple c.with_denominator.result _ _ _ _ here c.loop-entry.invariant.1 c.with_denominator.ensures c.in_ok-multiple.was,
    )
