use Rattle.served_members.proofs.Runs.{members_move_by_rule}
use Rattle.served_members.proofs.laws.members_move_by_rule.Goals as goal

pub returns : goal.returns
returns c = members_move_by_rule
