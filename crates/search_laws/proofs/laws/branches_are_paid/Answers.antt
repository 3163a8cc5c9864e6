use Rattle.search_laws.proofs.Sizes.{branches_are_paid}
use Rattle.search_laws.proofs.laws.branches_are_paid.Goals as goal

pub returns : goal.returns
returns c = branches_are_paid
