use Rattle.run_equivalence.proofs.RunSteps.{tables_agree, tables_stand_for}
use Rattle.run_equivalence.proofs.whole_laws.tables_agree.Goals as goal

pub returns-clause-limited : goal.returns-clause-limited
returns-clause-limited c = tables_agree

pub returns-clause-unlimited : goal.returns-clause-unlimited
returns-clause-unlimited c = tables_stand_for
