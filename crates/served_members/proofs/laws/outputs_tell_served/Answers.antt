use Rattle.served_members.proofs.LinesKept.{outputs_tell_served}
use Rattle.served_members.proofs.laws.outputs_tell_served.Goals as goal

pub returns : goal.returns
returns c = outputs_tell_served
