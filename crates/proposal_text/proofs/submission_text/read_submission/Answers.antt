use Rattle.std.proofs.Common.{IfSome, sym, ◌∙◌, subst}
use Rattle.std.proofs.lemmas.Result.{IfOk-weaker}
use Rattle.proposal_text.specs.Submissions.{IsTextOf}
use Rattle.proposal_text.proofs.ReadExactly.{some_text, submissions_read_exactly}
use Rattle.proposal_text.proofs.submission_text.read_submission.Goals as goal

pub returns-clause-each_text : goal.returns-clause-each_text
returns-clause-each_text c = λ s h. IfOk-weaker c.submission_read.result _ _ (λ read is. is ∙ (submissions_read_exactly c.args.text.now s).1 h) c.submission_read.ensures

pub returns-clause-text : goal.returns-clause-text
returns-clause-text c =
    let text = c.args.text.now in
    IfOk-weaker c.submission_read.result _ _ (λ read is. subst (λ o. IfSome o (IsTextOf text)) (sym is) (some_text text)) c.submission_read.ensures
