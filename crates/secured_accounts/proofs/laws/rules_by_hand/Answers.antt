use Rattle.secured_accounts.proofs.WorkedRules.{offers_by_hand, rules_by_hand}
use Rattle.secured_accounts.proofs.laws.rules_by_hand.Goals as goal

pub returns-clause-offers : goal.returns-clause-offers
returns-clause-offers c = offers_by_hand

pub returns-clause-rules : goal.returns-clause-rules
returns-clause-rules c = rules_by_hand
