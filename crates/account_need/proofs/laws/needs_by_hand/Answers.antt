use Rattle.account_need.proofs.WorkedNeeds.{needs_by_hand, sums_by_hand}
use Rattle.account_need.proofs.laws.needs_by_hand.Goals as goal

pub returns-clause-needs : goal.returns-clause-needs
returns-clause-needs c = needs_by_hand

pub returns-clause-sums : goal.returns-clause-sums
returns-clause-sums c = sums_by_hand
