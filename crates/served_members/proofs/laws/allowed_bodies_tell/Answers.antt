use Rattle.served_members.proofs.Freed.{allowed_bodies_tell}
use Rattle.served_members.proofs.laws.allowed_bodies_tell.Goals as goal

pub returns : goal.returns
returns c = allowed_bodies_tell
