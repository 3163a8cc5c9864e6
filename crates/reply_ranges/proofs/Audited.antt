-- What is served is accepted.
use Rattle.std.proofs.Common.{◌+◌, ℕ, List, Bool, true, false}
use Rattle.asked_lines.specs.Asked.{asked_step, asking_first}
use Rattle.asked_lines.specs.Standing.{StandsAsked}
use Rattle.exchange_sessions.specs.Messages.{messages_output}
use Rattle.reply_print.specs.Within.{IsLine}
use Rattle.live_lines.specs.Output.{output_of}
use Rattle.live_lines.specs.Serving.{IsInputWithin}
use Rattle.secured_lines.specs.Asked.{secured_asks}
use Rattle.secured_lines.specs.Output.{secured_line}
use Rattle.secured_lines.specs.SecuredState.{empty_secured}
use Rattle.served_members.specs.Members.{empty_members, member_body, member_question}
use Rattle.session_lines.specs.Questions.{BodyQuestion, any_asks, session_asks}
use Rattle.session_lines.specs.Sessions.{BodyStep, any_session, new_sessions, session_step}
use Rattle.reply_ranges.specs.Audits.{NamesNoLine, ServedLinesAreAccepted, ServedMembersAreAccepted, ServedMessagesAreAccepted}
use Rattle.journal_audit.specs.Findings.{audit_of}
use Rattle.reply_ranges.proofs.AskedServed.{question_served}
use Rattle.reply_ranges.proofs.MembersServed.{StandsMembers, members_answer, members_are_told}
use Rattle.reply_ranges.proofs.Messages.{AnswersBodies, StandsBefore, TellsBodies, answers_messages, nothing_before, passes as passes_message, sessions_are_told}
use Rattle.reply_ranges.proofs.Reports.{IsAnswered, IsOneLine, accepted_report, asked_answers, none_asked, output_accepted, passes_asked}
use Rattle.reply_ranges.proofs.SecuredServed.{StandsSecured, passes_secured, secured_answers}
use Rattle.reply_ranges.proofs.ServedLines.{empty_stands}
use Rattle.reply_ranges.proofs.Texts.{as_line}

-- ---- lines, between which some ask
module _ {S : Type 0} (ask : ℕ → S → List ℕ → List ℕ) (step : ℕ → S → List ℕ → List ℕ × S) (Stands : ℕ → S → Type 0)
    (passes : (number : ℕ) (state : S) → Stands number state → Stands (number + 1) state)
    (tells : (number : ℕ) (state : S) (body : List ℕ) → IsLine number → Stands number state → IsOneLine (ask number state body))
    (answers : (number : ℕ) (state : S) (line : List ℕ) → IsLine number → Stands number state → IsAnswered (Stands (number + 1)) (step number state line)) where
  asked_are_accepted : (skips : Bool) (start : S) (input : List ℕ) → IsInputWithin skips input → Stands 1 start
      → NamesNoLine (audit_of (output_of (asked_step ask step) skips (asking_first start) input))
  asked_are_accepted skips start input within first =
      accepted_report (output_of (asked_step ask step) skips (asking_first start) input)
      (output_accepted (asked_step ask step) (StandsAsked Stands) (λ number state h. passes_asked ask step Stands passes tells answers number state h)
      (λ number state line is_line h. asked_answers ask step Stands passes tells answers number state h is_line line) skips (asking_first start) input within
      (none_asked ask step Stands passes tells answers start first))

pub served_lines_are_accepted : ServedLinesAreAccepted
served_lines_are_accepted input within =
    asked_are_accepted secured_asks secured_line StandsSecured passes_secured
    (λ number state body is_line stands. as_line (secured_asks number state body) (question_served number is_line state stands body))
    (λ number state line is_line stands. let now = secured_answers number is_line state stands line in (as_line (secured_line number state line).0 now.0, now.1)) true empty_secured input within empty_stands

-- ---- messages
module _ {S : Type 0} (step : BodyStep S) (asks : BodyQuestion S) (Stands : ℕ → S → Type 0) (each : AnswersBodies step Stands) (tells : TellsBodies asks Stands) where
  messages_are_accepted : (start : S) (input : List ℕ) → Stands 1 start → IsInputWithin false input → NamesNoLine (audit_of (messages_output step asks start input))
  messages_are_accepted start input first within =
      asked_are_accepted (session_asks asks) (session_step step) (StandsBefore Stands) (passes_message Stands)
      (λ number state body is_line before. sessions_are_told step asks Stands each tells number is_line state before body)
      (λ number state line is_line before. answers_messages step Stands each number is_line state before line) false (new_sessions start) input within (nothing_before Stands start first)

lines_answer : AnswersBodies (any_session secured_line) StandsSecured
lines_answer session number state body is_line stands = secured_answers number is_line state stands body

lines_are_told : TellsBodies (any_asks secured_asks) StandsSecured
lines_are_told session number state body is_line stands = question_served number is_line state stands body

pub served_messages_are_accepted : ServedMessagesAreAccepted
served_messages_are_accepted input within = messages_are_accepted (any_session secured_line) (any_asks secured_asks) StandsSecured lines_answer lines_are_told empty_secured input empty_stands within

pub served_members_are_accepted : ServedMembersAreAccepted
served_members_are_accepted input within = messages_are_accepted member_body member_question StandsMembers members_answer members_are_told empty_members input empty_stands within
