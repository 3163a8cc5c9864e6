use Rattle.std.proofs.Common.{arith, inr}
use Rattle.std.proofs.lemmas.Result.{IfOk-weaker}
use Rattle.book_proposals.proofs.ProposalsWithin.{nothing_within, submission_within}
use Rattle.book_proposals.proofs.ShortLines.{nothing_short}
use Rattle.book_proposals.proofs.answers.proposal_for.Goals as goal

pub returns-in_ok-nothing-in-None : goal.returns-in_ok-nothing-in-None
returns-in_ok-nothing-in-None c =
    let batch = c.args.batch.now in
    let proposal = c.in_ok-nothing-in-None.field-0 in
    let nothing = c.in_ok-nothing-in-None.ensures.nothing in
    IfOk-weaker c.proposing_line.result _ _
    (λ text is. record {
      proposal = proposal;
      judged = c.in_ok-nothing-in-None.ensures.judged;
      earned = inr nothing;
      within = submission_within batch proposal c.requires.ranges (nothing_within batch proposal nothing);
      is = is;
      short = nothing_short batch proposal c.requires.ranges nothing c.args.market text.items (omega arith) is;
    })
    c.proposing_line.ensures
