use Rattle.std.proofs.Common.{IfOk, inr, subst, sym}
use Rattle.std.proofs.lemmas.Result.{IfOk-weaker}
use Rattle.proposals.specs.Judged.{IsHandedOut}
use Rattle.proposals.proofs.judged.judged_or_nothing.Goals as goal

-- what is not judged a bound is not handed out
pub returns-else-branch-clause-handed : goal.returns-else-branch-clause-handed
returns-else-branch-clause-handed c =
    subst (λ found. IfOk c.nothing-else-branch.result (IsHandedOut c.args.batch.now found)) (sym c.in-Some.is)
    (IfOk-weaker c.nothing-else-branch.result _ _ (λ proposal is. inr ((λ judged. let passes = c.in_ok-is_judged_bound-in-Some.ensures.1 judged in cc (c.if-branch.false, passes)), is)) c.nothing-else-branch.ensures.nothing)
