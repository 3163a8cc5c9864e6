use Rattle.cert_check.proofs.Certified.{conditions_cover}
use Rattle.cert_check.proofs.laws.conditions_cover.Goals as goal

pub returns : goal.returns
returns c = conditions_cover
