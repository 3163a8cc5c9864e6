use Rattle.run_equivalence.proofs.IntegerRowSteps.{integer_rows_fit, eliminated_rows_fit}
use Rattle.run_equivalence.proofs.whole_laws.integer_rows_fit.Goals as goal

pub returns-clause-mixed : goal.returns-clause-mixed
returns-clause-mixed c = integer_rows_fit

pub returns-clause-eliminated : goal.returns-clause-eliminated
returns-clause-eliminated c = eliminated_rows_fit
