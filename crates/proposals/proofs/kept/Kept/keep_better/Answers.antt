use Rattle.proposals.proofs.Offers.{offers_lose_nothing}
use Rattle.proposals.proofs.kept.Kept.keep_better.Goals as goal

pub returns-clause-better : goal.returns-clause-better
returns-clause-better c = offers_lose_nothing c.args.self.now c.args.orders c.args.proposal c.args.bound
