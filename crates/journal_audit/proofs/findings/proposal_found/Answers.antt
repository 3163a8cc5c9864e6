use Rattle.std.proofs.Common.{rules, ◌≡◌, Some, Ok, refl, ap, ◌∙◌}
use Rattle.serde_json.specs.View.{view}
use Rattle.reply_text.specs.Tests.{json_by, json_of, value_by}
use Rattle.proposal_text.specs.ReplyValues.{proposal_tests}
use Rattle.proposal_text.proofs.ReadExactly.{line_of}
use Rattle.journal_check.proofs.Found.{by_read}
use Rattle.journal_audit.specs.Findings.{proposal_found}
use Rattle.journal_audit.proofs.findings.proposal_found.Goals as goal

pub proposal_finding-requires : goal.proposal_finding-requires
proposal_finding-requires c =
    let text = c.args.text.now in
    let d = view c.args.value.now in
    let json : json_of text ≡ Some d = search rules in
    let read : value_by proposal_tests text d ≡ Ok (c.in-Ok.field-0-0, c.in-Ok.reply) = search rules in
    (line_of text c.in-Ok.field-0-0 c.in-Ok.reply (ap (json_by proposal_tests text) json ∙ read)).0.1

pub returns-in-Err : goal.returns-in-Err
returns-in-Err c =
    by_read proposal_found (λ fault. refl) (value_by proposal_tests c.args.text.now (view c.args.value.now)) c.fault_finding.result c.in-Err.fault c.fault_finding.ensures.value c.fault_finding.ensures.no_memory c.in-Err.ensures.err
