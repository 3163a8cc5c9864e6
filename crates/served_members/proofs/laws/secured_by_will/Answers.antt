use Rattle.served_members.proofs.Secured.{secured_by_will}
use Rattle.served_members.proofs.laws.secured_by_will.Goals as goal

pub returns : goal.returns
returns c = secured_by_will
