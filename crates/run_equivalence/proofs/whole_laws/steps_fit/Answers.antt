use Rattle.run_equivalence.proofs.StepsFit.{sums_fit, products_fit, quotients_fit}
use Rattle.run_equivalence.proofs.whole_laws.steps_fit.Goals as goal

pub returns-clause-sums : goal.returns-clause-sums
returns-clause-sums c = sums_fit

pub returns-clause-products : goal.returns-clause-products
returns-clause-products c = products_fit

pub returns-clause-quotients : goal.returns-clause-quotients
returns-clause-quotients c = quotients_fit
