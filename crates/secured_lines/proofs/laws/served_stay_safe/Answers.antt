use Rattle.secured_lines.proofs.StayingSafe.{served_stay_safe}
use Rattle.secured_lines.proofs.laws.served_stay_safe.Goals as goal

pub returns : goal.returns
returns c = served_stay_safe
