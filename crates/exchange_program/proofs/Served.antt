-- What is written for a request, and the status that it ends with.
use Rattle.std.proofs.Common.{◌≡◌, ℕ, true, List, [], Option, Some, None, IfSome, refl, sym, ◌∙◌, subst}
use Rattle.std.specs.List.{All}
use Rattle.std.specs.Io.KnownBytes.{Appends}
use Rattle.byte_streams.specs.Writes.{AppendsFront}
use Rattle.journal_check.specs.JournalLines.{lines_of}
use Rattle.journal_check.specs.declared.reports.Report.{Report}
use Rattle.journal_check.specs.declared.reports.Report.TheVariants.{Sound, Faulty}
use Rattle.journal_check.proofs.ReportsSay.{reports_say}
use Rattle.journal_audit.proofs.AuditSays.{audits_say}
use Rattle.demo_run.specs.Demo.{demo_output}
use Rattle.exchange_lines.specs.Promises.{TellAnswers}
use Rattle.exchange_lines.proofs.AsRun.{runs_tell_answers}
use Rattle.asked_lines.proofs.Apart.{tells_beside}
use Rattle.served_members.specs.SecuredAsked.{secured_asks}
use Rattle.served_members.specs.SecuredOutput.{secured_line}
use Rattle.served_members.specs.SecuredState.{empty_secured}
use Rattle.served_members.specs.Lines.{TellServed}
use Rattle.served_members.proofs.LinesKept.{outputs_tell_served}
use Rattle.exchange_sessions.specs.Answers.{sessions_output}
use Rattle.exchange_sessions.proofs.TellLaws.{members_tell_beside, output_tells_once, sessions_tell_once}
use Rattle.guarded_lines.proofs.AsRun.{guarded_tell_answers}
use Rattle.live_lines.proofs.Fronts.{no_front}
use Rattle.book_proposals.specs.LiveAnswers.{texts_in}
use Rattle.program_words.specs.declared.requests.Journal.{Journal}
use Rattle.program_words.specs.declared.requests.Journal.TheVariants as writer
use Rattle.program_words.specs.declared.requests.Mode.{Mode}
use Rattle.program_words.specs.declared.requests.Mode.TheVariants.{Run, Quotes, Guarded}
use Rattle.program_words.specs.declared.requests.Request.{Request}
use Rattle.program_words.specs.declared.requests.Request.TheVariants.{Lines, Check, Sessions, Serve, Propose, Demo}
use Rattle.program_words.specs.declared.requests.Served.{Served}
use Rattle.program_words.specs.declared.requests.Served.TheVariants as served
use Rattle.quote_lines.proofs.AsRun.{quotes_tell_answers}
use Rattle.exchange_program.specs.Journals.{IsSoundIn, NamesFault, SaysIn, report_in, report_line}
use Rattle.exchange_program.specs.Live.{ServedTell, served_output}
use Rattle.exchange_program.specs.Modes.{IsBesideIn, mode_output, step_in}
use Rattle.exchange_program.specs.Requests.{IsReadFirst, OfInput, OfSomeInput, Promised, PromisedFront, WhereCheck, OfOutput, input_of, status_by, status_for}
use Rattle.exchange_program.specs.Wrote.{Wrote, WroteFront}
use Rattle.exchange_program.specs.declared.status.Status.{Status}
use Rattle.exchange_program.specs.declared.status.Status.TheVariants.{Done, Usage, CheckNo}

-- ---- what is promised of the bytes that are written
told_in : (mode : Mode) (input : List ℕ) → TellAnswers (IsBesideIn mode) (step_in mode) input (mode_output mode input)
told_in Run input = runs_tell_answers input
told_in Quotes input = quotes_tell_answers input
told_in Guarded input = guarded_tell_answers input

pub told_served : (kind : Served) (input : List ℕ) → ServedTell kind input (served_output kind input)
told_served served.Lines input = tells_beside secured_asks secured_line true empty_secured TellServed outputs_tell_served input
told_served served.Sessions input = sessions_tell_once input
told_served served.Members input = members_tell_beside input

-- what is written where the input is read first is told what is promised
promised : (request : Request) (input : List ℕ) (P : List ℕ → Type 0) → IsReadFirst request → OfOutput request input P
    → (bytes : List ℕ) × Promised request input bytes × P bytes
promised (Lines mode) input P first wrote = (mode_output mode input, told_in mode input, wrote)
promised (Check journal) input P first wrote = (report_line journal input, tt, wrote)
promised Sessions input P first wrote = (sessions_output input, output_tells_once input, wrote)
promised (Serve kind) input P first wrote = absurd first
promised Propose input P first wrote = absurd first
promised (Demo seed count) input P first wrote = (demo_output seed count, tt, wrote)

-- some bytes are read
abbrev IsInput : Request → Option (List ℕ) → List ℕ → Type 0
IsInput request left input = OfInput request left (λ told. input ≡ told)

pub told : (request : Request) (left old new : Option (List ℕ)) (input : List ℕ) → IsReadFirst request → IsInput request left input
    → OfOutput request input (Appends old new) → OfSomeInput request left (λ input. Wrote old new (Promised request input))
told request left old new input first is wrote = (input, is, promised request input (Appends old new) first wrote)

-- a front of it is promised the same
front_promised : (request : Request) (input bytes : List ℕ) → IsReadFirst request → Promised request input bytes → PromisedFront request input bytes
front_promised (Lines mode) input bytes first are = are
front_promised (Check journal) input bytes first are = are
front_promised Sessions input bytes first are = are
front_promised (Serve kind) input bytes first are = absurd first
front_promised Propose input bytes first are = absurd first
front_promised (Demo seed count) input bytes first are = are

pub told_front : (request : Request) (left old new : Option (List ℕ)) (input : List ℕ) → IsReadFirst request → IsInput request left input
    → OfOutput request input (AppendsFront old new) → OfSomeInput request left (λ input. WroteFront old new (PromisedFront request input))
told_front request left old new input first is wrote =
    let all = promised request input (AppendsFront old new) first wrote in (input, is, (all.0, front_promised request input all.0 first all.1, all.2))

-- some input there is
if_told : (left : Option (List ℕ)) → (input : List ℕ) × IfSome left (λ told. input ≡ told)
if_told None = ([], tt)
if_told (Some input) = (input, refl)

some_input : (request : Request) (left : Option (List ℕ)) → (input : List ℕ) × IsInput request left input
some_input request left = if_told (input_of request left)

-- nothing at all is a front of it
some_promised : (request : Request) (input : List ℕ) → (bytes : List ℕ) × PromisedFront request input bytes
some_promised (Lines mode) input = (mode_output mode input, told_in mode input)
some_promised (Check journal) input = ([], tt)
some_promised Sessions input = (sessions_output input, output_tells_once input)
some_promised (Serve kind) input = (served_output kind input, told_served kind input)
some_promised Propose input = ([], ([], texts_in input, refl, refl))
some_promised (Demo seed count) input = ([], tt)

pub nothing_told : (request : Request) (left old : Option (List ℕ)) → OfSomeInput request left (λ input. WroteFront old old (PromisedFront request input))
nothing_told request left old =
    let some = some_input request left in
    let told = some_promised request some.0 in
    (some.0, some.1, (told.0, told.1, no_front old old told.0 refl))

-- ---- what a report found
says_in : (journal : Journal) (input : List ℕ) → SaysIn journal (lines_of input) (report_in journal input)
says_in writer.Run input = reports_say input
says_in writer.Served input = audits_say input

all_sound : (journal : Journal) (texts : List (List ℕ)) (report : Report) → SaysIn journal texts report → status_by report ≡ Done → All (IsSoundIn journal) texts
all_sound writer.Run texts (Sound batches bounded lines optimal) says is = says.sound
all_sound writer.Served texts (Sound batches bounded lines optimal) says is = says.sound
all_sound journal texts (Faulty line reason) says is = cc

names_fault : (journal : Journal) (input : List ℕ) (report : Report) → report_in journal input ≡ report → SaysIn journal (lines_of input) report → status_by report ≡ CheckNo
    → NamesFault journal input
names_fault journal input (Sound batches bounded lines optimal) e says is = cc
names_fault writer.Run input (Faulty line reason) e says is = (line, reason, e, says)
names_fault writer.Served input (Faulty line reason) e says is = (line, reason, e, says)

module _ (status : Status) (bytes : List ℕ) where
  pub sound : (request : Request) (left : Option (List ℕ)) → OfInput request left (λ input. bytes ≡ input) → status ≡ status_for request bytes → status ≡ Done
      → WhereCheck request (λ journal. IfSome left (λ input. All (IsSoundIn journal) (lines_of input)))
  sound (Lines mode) left all is done = tt
  sound (Check journal) None all is done = tt
  sound (Check journal) (Some input) all is done =
      subst (λ (b : List ℕ). All (IsSoundIn journal) (lines_of b)) all (all_sound journal (lines_of bytes) (report_in journal bytes) (says_in journal bytes) (sym is ∙ done))
  sound Sessions left all is done = tt
  sound (Serve kind) left all is done = tt
  sound Propose left all is done = tt
  sound (Demo seed count) left all is done = tt

  pub faulty : (request : Request) (left : Option (List ℕ)) → OfInput request left (λ input. bytes ≡ input) → status ≡ status_for request bytes → status ≡ CheckNo
      → WhereCheck request (λ journal. IfSome left (NamesFault journal))
  faulty (Lines mode) left all is failed = tt
  faulty (Check journal) None all is failed = tt
  faulty (Check journal) (Some input) all is failed =
      subst (NamesFault journal) all (names_fault journal bytes (report_in journal bytes) refl (says_in journal bytes) (sym is ∙ failed))
  faulty Sessions left all is failed = tt
  faulty (Serve kind) left all is failed = tt
  faulty Propose left all is failed = tt
  faulty (Demo seed count) left all is failed = tt

-- ---- no answer to a request is Usage
report_known : (report : Report) → status_by report ≡ Usage → ⊥
report_known (Sound batches bounded lines optimal) e = cc
report_known (Faulty line reason) e = cc

pub known : (request : Request) (input : List ℕ) (status : Status) → status ≡ status_for request input → status ≡ Usage → ⊥
known (Lines mode) input status is usage = cc
known (Check journal) input status is usage = report_known (report_in journal input) (sym is ∙ usage)
known Sessions input status is usage = cc
known (Serve kind) input status is usage = cc
known Propose input status is usage = cc
known (Demo seed count) input status is usage = cc
