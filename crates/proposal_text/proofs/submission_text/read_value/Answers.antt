use Rattle.std.proofs.Common.{rules, ◌≡◌, true, Some, None, inr}
use Rattle.serde_json.specs.View.{view}
use Rattle.reply_text.proofs.FiveTests.{spelled, not_range, not_spelled}
use Rattle.proposal_text.specs.Pieces.{submission_text}
use Rattle.proposal_text.specs.Submissions.{proposal_numbers, submission_from, submission_shape, submission_tests}
use Rattle.proposal_text.proofs.submission_text.read_value.Goals as goal

pub returns-then-branch-clause-ok : goal.returns-then-branch-clause-ok
returns-then-branch-clause-ok c =
    let d = view c.args.value.now in
    let s = c.in-Some.submission in
    let shape : submission_shape d ≡ true = search rules in
    let numbers : proposal_numbers d ≡ true = search rules in
    let taken : submission_from d ≡ Some s = search rules in
    let same : submission_text s ≡ c.args.text.now = search rules in
    spelled submission_tests c.args.text.now d s shape numbers taken same

pub returns-else-branch-clause-err : goal.returns-else-branch-clause-err
returns-else-branch-clause-err c =
    let d = view c.args.value.now in
    let s = c.in-Some.submission in
    let shape : submission_shape d ≡ true = search rules in
    let numbers : proposal_numbers d ≡ true = search rules in
    let taken : submission_from d ≡ Some s = search rules in
    let other : submission_text s ≡ c.args.text.now → ⊥ = search rules in
    inr (not_spelled submission_tests c.args.text.now d s shape numbers taken other)

pub returns-in_default-clause-err : goal.returns-in_default-clause-err
returns-in_default-clause-err c =
    let d = view c.args.value.now in
    let shape : submission_shape d ≡ true = search rules in
    let numbers : proposal_numbers d ≡ true = search rules in
    let taken : submission_from d ≡ None = search rules in
    inr (not_range submission_tests c.args.text.now d shape numbers taken)
