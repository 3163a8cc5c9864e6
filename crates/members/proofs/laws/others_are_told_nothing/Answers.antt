use Rattle.members.proofs.ToldNothing.{others_are_told_nothing}
use Rattle.members.proofs.laws.others_are_told_nothing.Goals as goal

pub returns : goal.returns
returns c = others_are_told_nothing
