use Rattle.members.proofs.ByRule.{moves_are_by_rule}
use Rattle.members.proofs.laws.moves_are_by_rule.Goals as goal

pub returns : goal.returns
returns c = moves_are_by_rule
