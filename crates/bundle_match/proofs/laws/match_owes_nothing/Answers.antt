use Rattle.bundle_match.proofs.MatchLaws.{match_owes_nothing}
use Rattle.bundle_match.proofs.laws.match_owes_nothing.Goals as goal

pub returns : goal.returns
returns c = match_owes_nothing
