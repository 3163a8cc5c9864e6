use Rattle.std.proofs.Common.{◌≡◌, sym, rules, ◌∙◌}
use Rattle.frac.specs.Range.{limit}
use Rattle.cert_check.specs.declared.outcome.FailedCondition.TheVariants as no
use Rattle.cert_check.specs.declared.outcome.Verdict.TheVariants.{No}
use Rattle.cert_check.specs.Events.{verdict_of}
use Rattle.cert_check.proofs.Shapes.{shaped}
use Rattle.cert_check.proofs.Certified.{conditions_cover, conditions_measure, conditions_prove}
use Rattle.cert_check.proofs.Yes.{said, on_yes}
use Rattle.cert_check.proofs.judging.verdict.Goals as goal

pub judge_cover-requires-clause-forms : goal.judge_cover-requires-clause-forms
judge_cover-requires-clause-forms c =
    let is = shaped c.args.batch.now c.args.outcome.now (sym c.has_shape.ensures ∙ c.if-not-has_shape.false) in
    record { some = c.requires.underlyings.0; few = c.requires.underlyings.1; forms = is.forms }

pub judge_cover-requires-clause-fills : goal.judge_cover-requires-clause-fills
judge_cover-requires-clause-fills c = (shaped c.args.batch.now c.args.outcome.now (sym c.has_shape.ensures ∙ c.if-not-has_shape.false)).fills

pub judge_cover-requires-clause-mark : goal.judge_cover-requires-clause-mark
judge_cover-requires-clause-mark c = (shaped c.args.batch.now c.args.outcome.now (sym c.has_shape.ensures ∙ c.if-not-has_shape.false)).mark

pub returns-clause-met : goal.returns-clause-met
returns-clause-met c =
    let steps : verdict_of limit c.args.batch.now c.args.outcome.now ≡ c.judge_cover.result = search rules in
    (said c.args.batch.now c.args.outcome.now c.judge_cover.result steps).0

pub returns-clause-unmet : goal.returns-clause-unmet
returns-clause-unmet c =
    let steps : verdict_of limit c.args.batch.now c.args.outcome.now ≡ c.judge_cover.result = search rules in
    (said c.args.batch.now c.args.outcome.now c.judge_cover.result steps).1

pub returns-clause-covers : goal.returns-clause-covers
returns-clause-covers c =
    let steps : verdict_of limit c.args.batch.now c.args.outcome.now ≡ c.judge_cover.result = search rules in
    on_yes c.judge_cover.result (conditions_cover c.args.batch.now c.args.outcome.now) (said c.args.batch.now c.args.outcome.now c.judge_cover.result steps).0

pub returns-clause-measured : goal.returns-clause-measured
returns-clause-measured c =
    let steps : verdict_of limit c.args.batch.now c.args.outcome.now ≡ c.judge_cover.result = search rules in
    on_yes c.judge_cover.result (conditions_measure c.args.batch.now c.args.outcome.now) (said c.args.batch.now c.args.outcome.now c.judge_cover.result steps).0

pub returns-clause-proved : goal.returns-clause-proved
returns-clause-proved c =
    let steps : verdict_of limit c.args.batch.now c.args.outcome.now ≡ c.judge_cover.result = search rules in
    on_yes c.judge_cover.result (conditions_prove c.args.batch.now c.args.outcome.now) (said c.args.batch.now c.args.outcome.now c.judge_cover.result steps).0

pub returns-then-not-has_shape-clause-unmet : goal.returns-then-not-has_shape-clause-unmet
returns-then-not-has_shape-clause-unmet c =
    let steps : verdict_of limit c.args.batch.now c.args.outcome.now ≡ No no.BatchShape = search rules in
    (said c.args.batch.now c.args.outcome.now (No no.BatchShape) steps).1

pub returns-then-not-are_fills-clause-unmet : goal.returns-then-not-are_fills-clause-unmet
returns-then-not-are_fills-clause-unmet c =
    let steps : verdict_of limit c.args.batch.now c.args.outcome.now ≡ No no.Fill = search rules in
    (said c.args.batch.now c.args.outcome.now (No no.Fill) steps).1
