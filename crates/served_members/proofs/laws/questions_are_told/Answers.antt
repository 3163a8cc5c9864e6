use Rattle.served_members.proofs.Questions.{questions_are_told}
use Rattle.served_members.proofs.laws.questions_are_told.Goals as goal

pub returns : goal.returns
returns c = questions_are_told
