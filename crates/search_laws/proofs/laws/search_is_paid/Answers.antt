use Rattle.search_laws.proofs.Sizes.{search_is_paid}
use Rattle.search_laws.proofs.laws.search_is_paid.Goals as goal

pub returns : goal.returns
returns c = search_is_paid
