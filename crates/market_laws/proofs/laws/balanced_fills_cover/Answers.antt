use Rattle.market_laws.proofs.Certificate.{balanced_fills_cover}
use Rattle.market_laws.proofs.laws.balanced_fills_cover.Goals as goal

pub returns : goal.returns
returns c = balanced_fills_cover
