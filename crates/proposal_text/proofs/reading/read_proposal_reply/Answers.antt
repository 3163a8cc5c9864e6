use Rattle.std.proofs.Common.{rules, ◌≡◌, Some, ap, ◌∙◌}
use Rattle.std.proofs.lemmas.Result.{IfOk-weaker}
use Rattle.serde_json.specs.View.{view}
use Rattle.reply_text.specs.Tests.{json_by, json_of}
use Rattle.proposal_text.specs.ReplyValues.{proposal_tests}
use Rattle.proposal_text.proofs.ReadExactly.{line_of}
use Rattle.proposal_text.proofs.reading.read_proposal_reply.Goals as goal

pub returns-clause-line : goal.returns-clause-line
returns-clause-line c =
    let text = c.args.text.now in
    let json : json_of text ≡ Some (view c.in_ok-value.value) = search rules in
    IfOk-weaker c.read_proposal_value.result _ _ (λ p is. line_of text p.0 p.1 (ap (json_by proposal_tests text) json ∙ is))
    c.read_proposal_value.ensures.ok
