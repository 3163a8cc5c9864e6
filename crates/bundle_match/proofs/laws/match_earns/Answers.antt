use Rattle.bundle_match.proofs.MatchLaws.{match_earns}
use Rattle.bundle_match.proofs.laws.match_earns.Goals as goal

pub returns : goal.returns
returns c = match_earns
