-- What is found of a line of `serve` or of `serve sessions`.
use Rattle.std.specs.Prelude.{ℕ, List, Bool, ◌&&◌, ◌||◌, ◌==◌, nat_le, Option, Some, None, Result, Ok, Err, codes, if◌then◌else◌}
use Rattle.std.specs.Str.{bytes_eq}
use Rattle.frac.specs.Range.{limit}
use Rattle.frac.specs.Value.{fraction_of}
use Rattle.proposal_check.specs.Proposals.{bounded_verdict_of}
use Rattle.serde_json.specs.Data.{Data}
use Rattle.reply_print.specs.Look.{word_at, number_at}
use Rattle.reply_text.specs.declared.faults.LineFault.{LineFault}
use Rattle.reply_text.specs.Reading.{LineRead, reading}
use Rattle.reply_text.specs.Tests.{json_of, value_by}
use Rattle.proposal_text.specs.declared.replies.ProposalReply.{ProposalReply}
use Rattle.proposal_text.specs.declared.replies.ProposalReply.TheVariants as told
use Rattle.proposal_text.specs.ReplyValues.{proposal_tests}
use Rattle.journal_check.specs.declared.findings.Finding.{Finding}
use Rattle.journal_check.specs.declared.findings.Finding.TheVariants.{Plain, Faulty}
use Rattle.journal_check.specs.declared.reports.Reason.TheVariants.{Range, Spelling}
use Rattle.journal_check.specs.declared.reports.Reason.TheVariants as reason
use Rattle.journal_check.specs.Findings.{bounded_finding, fault_finding, reply_finding}
use Rattle.journal_check.specs.Reports.{report_by}
use Rattle.journal_check.specs.declared.reports.Report.{Report}
use Rattle.journal_audit.specs.Accepted.{is_accepted, is_questioned, message_from, question_in, reply_in}
use Rattle.journal_audit.specs.GateLines.{gate_tests, session_at}

-- ---- lines beside those of a run

abbrev pub proposal_finding : ProposalReply → Finding
proposal_finding (told.Bounded number market batch outcome) = bounded_finding (bounded_verdict_of limit batch outcome.proposal (fraction_of outcome.bound))
proposal_finding other = Plain

abbrev pub proposal_found : Result (ℕ × ProposalReply) LineFault → Finding
proposal_found (Ok pair) = proposal_finding pair.1
proposal_found (Err f) = fault_finding f

-- a line that reads is no fault
abbrev pub plain_found : {A : Type 0} → Result A LineFault → Finding
plain_found (Ok a) = Plain
plain_found (Err f) = fault_finding f

-- whether a refusal is one that a run has not
abbrev pub is_served_refusal : ℕ → Bool
is_served_refusal number = (number == 14 || (number == 20 || number == 21)) || (nat_le 23 number && nat_le number 27)

-- whether a word is that of a reply about phases, needs or trials
abbrev pub is_served_word : List ℕ → Bool
is_served_word word =
    (bytes_eq word (codes "closed") || bytes_eq word (codes "reopened"))
    || (bytes_eq word (codes "secured") || (bytes_eq word (codes "need") || bytes_eq word (codes "tried")))

-- whether a word is that of a reply that tells a quote, prices or a margin
abbrev pub is_asked_word : List ℕ → Bool
is_asked_word word = bytes_eq word (codes "quoted") || (bytes_eq word (codes "priced") || bytes_eq word (codes "margin"))

-- whether the value is that of a line that tells what is told beside a run, or of a refusal that a
-- run has not
abbrev pub tells_proposal : List ℕ → Data → Bool
tells_proposal word d =
    (bytes_eq word (codes "book") || (bytes_eq word (codes "positions") || bytes_eq word (codes "proposed")))
    || ((bytes_eq word (codes "cleared") && number_at (codes "version") d == 3)
    || (is_served_word word
    || (is_asked_word word
    || (bytes_eq word (codes "refused") && is_served_refusal (number_at (codes "number") d)))))

-- a line that is not one of a run, which fails its tests by the fault
abbrev pub value_finding : List ℕ → LineFault → List ℕ → Data → Finding
value_finding text f word d =
    if tells_proposal word d then proposal_found (value_by proposal_tests text d) else fault_finding f

abbrev pub beside : List ℕ → LineFault → Option Data → Finding
beside text f None = fault_finding f
beside text f (Some d) = value_finding text f (word_at (codes "reply") d) d

abbrev pub told_finding : List ℕ → LineRead → Finding
told_finding text (Ok pair) = reply_finding pair.1
told_finding text (Err f) = beside text f (json_of text)

-- a line of `serve`
abbrev pub served_finding : List ℕ → Finding
served_finding text = told_finding text (reading text)

-- ---- lines of sessions

-- what is no JSON is not spelled as a reply is
abbrev pub unspelled : Finding → Finding
unspelled (Faulty reason.NotJson) = Faulty Spelling
unspelled other = other

abbrev pub reply_found : Option (List ℕ) → Finding
reply_found None = Faulty Spelling
reply_found (Some reply) = unspelled (served_finding reply)

-- the reply to an accepted message of these numbers
abbrev pub accepted_finding : List ℕ → Option (ℕ × ℕ) → Finding
accepted_finding text None = Faulty Range
accepted_finding text (Some message) = reply_found (reply_in text message)

-- the reply to a question of this session
abbrev pub questioned_finding : List ℕ → Option ℕ → Finding
questioned_finding text None = Faulty Range
questioned_finding text (Some session) = reply_found (question_in text session)

abbrev pub session_value_finding : List ℕ → LineFault → List ℕ → Data → Finding
session_value_finding text f word d =
    if is_accepted d then accepted_finding text (message_from d)
    else if is_questioned d then questioned_finding text (session_at d)
    else if bytes_eq word (codes "gate") then plain_found (value_by gate_tests text d)
    else value_finding text f word d

abbrev pub session_beside : List ℕ → LineFault → Option Data → Finding
session_beside text f None = fault_finding f
session_beside text f (Some d) = session_value_finding text f (word_at (codes "reply") d) d

abbrev pub line_finding : List ℕ → LineRead → Finding
line_finding text (Ok pair) = reply_finding pair.1
line_finding text (Err f) = session_beside text f (json_of text)

-- what is found of any line
abbrev pub audit_finding : List ℕ → Finding
audit_finding text = line_finding text (reading text)

abbrev pub audit_of : List ℕ → Report
audit_of bytes = report_by audit_finding bytes
