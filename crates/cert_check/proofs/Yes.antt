-- What a yes shows.
use Rattle.std.proofs.Common.{◌≡◌, All, subst}
use Rattle.frac.specs.Range.{limit}
use Rattle.form.specs.declared.orders.Batch.{Batch}
use Rattle.cert_check.specs.declared.outcome.Outcome.{Outcome}
use Rattle.cert_check.specs.declared.outcome.Verdict.{Verdict}
use Rattle.cert_check.specs.declared.outcome.Verdict.TheVariants.{Yes, No, Wide}
use Rattle.cert_check.specs.Conditions.{OnYes, Meets, conditions}
use Rattle.cert_check.specs.Events.{verdict_of}
use Rattle.cert_check.specs.Laws.{Says, YesCovers, YesHasItsMeasure, YesOnOptimalProves}
use Rattle.cert_check.proofs.Decided.{verdicts_decide}
use Rattle.cert_check.proofs.Certified.{conditions_cover, conditions_measure, conditions_prove}

-- what the verdict shows, where a judgement is the verdict
pub said : (batch : Batch) (outcome : Outcome) (judgement : Verdict) → verdict_of limit batch outcome ≡ judgement → Says batch outcome judgement
said batch outcome judgement is = subst (Says batch outcome) is (verdicts_decide batch outcome)

-- what follows from a fact on yes holds on yes
pub on_yes : {P Q : Type 0} (judgement : Verdict) → (P → Q) → OnYes judgement P → OnYes judgement Q
on_yes Yes f p = f p
on_yes (No k) f p = tt
on_yes (Wide w) f p = tt

yes_meets : (batch : Batch) (outcome : Outcome) → verdict_of limit batch outcome ≡ Yes → All (Meets batch outcome) conditions
yes_meets batch outcome h = (said batch outcome Yes h).0

pub yes_covers : YesCovers
yes_covers batch outcome h = conditions_cover batch outcome (yes_meets batch outcome h)

pub yes_has_its_measure : YesHasItsMeasure
yes_has_its_measure batch outcome h = conditions_measure batch outcome (yes_meets batch outcome h)

pub yes_on_optimal_proves : YesOnOptimalProves
yes_on_optimal_proves batch outcome h = conditions_prove batch outcome (yes_meets batch outcome h)
