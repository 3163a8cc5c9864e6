use Rattle.bundle_match.proofs.MatchLaws.{match_is_within}
use Rattle.bundle_match.proofs.laws.match_is_within.Goals as goal

pub returns : goal.returns
returns c = match_is_within
