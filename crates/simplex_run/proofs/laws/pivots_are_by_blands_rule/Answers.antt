use Rattle.simplex_run.proofs.Tables.{pivots_are_by_blands_rule}
use Rattle.simplex_run.proofs.laws.pivots_are_by_blands_rule.Goals as goal

pub returns : goal.returns
returns c = pivots_are_by_blands_rule
