use Rattle.secured_lines.proofs.Secured.{secured_stay_secured}
use Rattle.secured_lines.proofs.laws.secured_stay_secured.Goals as goal

pub returns : goal.returns
returns c = secured_stay_secured
