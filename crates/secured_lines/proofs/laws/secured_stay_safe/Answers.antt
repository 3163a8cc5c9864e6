use Rattle.secured_lines.proofs.StayingSafe.{secured_stay_safe}
use Rattle.secured_lines.proofs.laws.secured_stay_safe.Goals as goal

pub returns : goal.returns
returns c = secured_stay_safe
