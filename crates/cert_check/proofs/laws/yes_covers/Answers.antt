use Rattle.cert_check.proofs.Yes.{yes_covers}
use Rattle.cert_check.proofs.laws.yes_covers.Goals as goal

pub returns : goal.returns
returns c = yes_covers
