use Rattle.bundle_match.proofs.MatchLaws.{match_covers}
use Rattle.bundle_match.proofs.laws.match_covers.Goals as goal

pub returns : goal.returns
returns c = match_covers
