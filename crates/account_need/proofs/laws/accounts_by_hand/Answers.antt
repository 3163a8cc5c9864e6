use Rattle.account_need.proofs.WorkedRules.{baskets_by_hand, rules_by_hand}
use Rattle.account_need.proofs.laws.accounts_by_hand.Goals as goal

pub returns-clause-rules : goal.returns-clause-rules
returns-clause-rules c = rules_by_hand

pub returns-clause-baskets : goal.returns-clause-baskets
returns-clause-baskets c = baskets_by_hand
