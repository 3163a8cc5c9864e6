use Rattle.account_need.proofs.SeveralBounds.{bounds_cover}
use Rattle.account_need.proofs.laws.bounds_cover.Goals as goal

pub returns : goal.returns
returns c = bounds_cover
