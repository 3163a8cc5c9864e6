use Rattle.simplex_run.proofs.Tables.{tables_are_feasible}
use Rattle.simplex_run.proofs.laws.tables_are_feasible.Goals as goal

pub returns : goal.returns
returns c = tables_are_feasible
