use Rattle.form.proofs.DotSteps.{payoffs_are_exact}
use Rattle.form.proofs.laws.payoffs_are_exact.Goals as goal

pub returns : goal.returns
returns c = payoffs_are_exact
