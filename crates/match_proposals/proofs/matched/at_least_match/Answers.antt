use Rattle.std.proofs.Common.{◌≡◌, false, sym, ◌∙◌, subst}
use Rattle.cert_check.specs.Conditions.{is_optimal_mark}
use Rattle.proposals.specs.Judged.{IsJudgedBound}
use Rattle.match_proposals.proofs.Joined.{match_is_judged}
use Rattle.match_proposals.proofs.matched.at_least_match.Goals as goal

-- the verdict accepts the match, which so proves the bound of the proposal
pub returns-clause-judged : goal.returns-clause-judged
returns-clause-judged c =
    let batch = c.args.batch.now in
    let outcome = c.in_ok-outcome.outcome in
    let proposal = c.args.proposal in
    let stopped : is_optimal_mark outcome.mark ≡ false = sym c.is_optimal.ensures ∙ c.if-is_optimal.false in
    let judged = match_is_judged batch outcome proposal stopped c.in_ok-outcome.ensures.yes c.requires.judged in
    subst (IsJudgedBound batch) (sym c.match_of.ensures) judged
