use Rattle.std.proofs.lemmas.Result.{IfOk-weaker}
use Rattle.proposals.proofs.NothingProposed.{nothing_is_a_bound}
use Rattle.proposals.proofs.unfilled.nothing.Goals as goal

pub returns-clause-judged : goal.returns-clause-judged
returns-clause-judged c =
    IfOk-weaker c.without_fills.result _ _ (λ proposal is. nothing_is_a_bound c.args.batch.now proposal c.requires.within is) c.without_fills.ensures
