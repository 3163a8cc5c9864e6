use Rattle.form.proofs.LegSteps.{bundle_payoffs_are_exact}
use Rattle.form.proofs.laws.bundle_payoffs_are_exact.Goals as goal

pub returns : goal.returns
returns c = bundle_payoffs_are_exact
