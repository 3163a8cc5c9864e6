use Rattle.secured_lines.proofs.Without.{without_secured}
use Rattle.secured_lines.proofs.laws.without_secured.Goals as goal

pub returns : goal.returns
returns c = without_secured
