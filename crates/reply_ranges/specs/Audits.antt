-- What `audit` says of what was written where lines, or messages of sessions, are served.
use Rattle.std.specs.Prelude.{ℕ, List, true, false, ⊤}
use Rattle.journal_check.specs.declared.reports.Report.{Report}
use Rattle.journal_check.specs.declared.reports.Report.TheVariants.{Sound, Faulty}
use Rattle.journal_audit.specs.Findings.{audit_of}
use Rattle.live_lines.specs.Serving.{IsInputWithin}
use Rattle.secured_lines.specs.Asked.{asked_output}
use Rattle.exchange_sessions.specs.AllLines.{all_sessions_output}
use Rattle.exchange_sessions.specs.Members.{all_members_output}

-- the verdict is yes
abbrev pub NamesNoLine : Report → Type 0
NamesNoLine (Sound batches bounded lines optimal) = ⊤
NamesNoLine (Faulty line reason) = ⊥

-- the report on what is written for an input whose lines are within the limits, as those of a run
-- that finished are, names no line
abbrev pub ServedLinesAreAccepted : Type 0
ServedLinesAreAccepted = (input : List ℕ) → IsInputWithin true input → NamesNoLine (audit_of (asked_output input))

-- nor does the report on what is written for messages
abbrev pub ServedMessagesAreAccepted : Type 0
ServedMessagesAreAccepted = (input : List ℕ) → IsInputWithin false input → NamesNoLine (audit_of (all_sessions_output input))

-- by the rule or without one
abbrev pub ServedMembersAreAccepted : Type 0
ServedMembersAreAccepted = (input : List ℕ) → IsInputWithin false input → NamesNoLine (audit_of (all_members_output input))
