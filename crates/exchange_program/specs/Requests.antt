-- What the program does for each request.
use Rattle.std.specs.Prelude.{ℕ, List, [], Bool, true, ◌+◌, ◌≡◌, ◌≤◌, ◌<◌, ◌⊎◌, length, Option, Some, None, IfSome, IsSomeAnd, MatchOption}
use Rattle.std.specs.Option.{option_map_or}
use Rattle.demo_run.specs.Demo.{demo_output}
use Rattle.exchange_lines.specs.Promises.{TellAnswers}
use Rattle.exchange_sessions.specs.Answers.{sessions_output}
use Rattle.exchange_sessions.specs.Laws.{TellOnce}
use Rattle.journal_check.specs.declared.reports.Report.{Report}
use Rattle.journal_check.specs.declared.reports.Report.TheVariants.{Sound, Faulty}
use Rattle.live_lines.specs.Serving as live_input
use Rattle.live_lines.specs.Serving.{IsServedInTime}
use Rattle.book_proposals.specs.LiveAnswers.{IsWrittenFor}
use Rattle.book_proposals.specs.Proposing.{WroteFor}
use Rattle.byte_streams.specs.Reads.{LastRead}
use Rattle.program_words.specs.declared.requests.Journal.{Journal}
use Rattle.program_words.specs.declared.requests.Mode.{Mode}
use Rattle.program_words.specs.declared.requests.Request.{Request}
use Rattle.program_words.specs.declared.requests.Request.TheVariants.{Lines, Check, Sessions, Serve, Propose, Demo}
use Rattle.program_words.specs.declared.requests.Served.{Served}
use Rattle.program_words.specs.Requests.{request_of}
use Rattle.exchange_program.specs.Journals.{report_in, report_line}
use Rattle.exchange_program.specs.Live.{AnswerFirst, ServedTell, WroteAnswers, served_output, skips_mark}
use Rattle.exchange_program.specs.Modes.{IsBesideIn, mode_output, step_in}
use Rattle.limits.specs.declared.TheConstants.{MAX_ACCOUNTS, MAX_BATCHES, MAX_BYTES, MAX_MARKETS}
use Rattle.exchange_program.specs.declared.check.TheConstants.{MAX_JOURNAL}
use Rattle.exchange_program.specs.declared.status.Status.{Status}
use Rattle.exchange_program.specs.declared.status.Status.TheVariants.{Done, CheckNo}

-- ---- the input
-- how many bytes are read at most, all of them before anything is written: none for a demo. There
-- is no such limit where lines are answered between two reads
abbrev pub limit_of : Request → Option ℕ
limit_of (Lines mode) = Some MAX_BYTES
limit_of (Check journal) = Some MAX_JOURNAL
limit_of Sessions = Some MAX_BYTES
limit_of (Serve served) = None
limit_of Propose = None
limit_of (Demo seed count) = Some 0

-- in numbers
pub record LimitsAreAsStated : Type 0 where
  pub lines : (mode : Mode) → limit_of (Lines mode) ≡ Some 16777216
  pub journals : (journal : Journal) → limit_of (Check journal) ≡ Some 268435456
  pub sessions : limit_of Sessions ≡ Some 16777216
  pub demo : (seed count : ℕ) → limit_of (Demo seed count) ≡ Some 0
  -- in the life of an exchange
  pub accounts : MAX_ACCOUNTS ≡ 10000
  pub markets : MAX_MARKETS ≡ 64
  pub batches : MAX_BATCHES ≡ 2000000

-- whether the mark in front of an input without such a limit is skipped
abbrev pub skips_of : Request → Bool
skips_of (Serve served) = skips_mark served
skips_of other = true

-- what is read, as far as it is told: the bytes that were left, and none for a demo
abbrev pub input_of : Request → Option (List ℕ) → Option (List ℕ)
input_of (Demo seed count) left = Some []
input_of other left = left

-- whether all is read before anything is written
abbrev pub IsReadFirst : Request → Type 0
IsReadFirst request = IsSomeAnd (limit_of request) (λ limit. Unit {0})

-- a fact of the limit, where there is one
abbrev pub WithLimit : Request → (ℕ → Type 0) → Type 0
WithLimit request P = IfSome (limit_of request) P

-- a fact of the bytes that are read
abbrev pub OfInput : Request → Option (List ℕ) → (List ℕ → Type 0) → Type 0
OfInput request left P = IfSome (input_of request left) P

-- a fact of some bytes, which are those that are read, as far as they are told
abbrev pub OfSomeInput : Request → Option (List ℕ) → (List ℕ → Type 0) → Type 0
OfSomeInput request left P = (input : List ℕ) × OfInput request left (λ told. input ≡ told) × P input

-- all that was left is read, where the input is read
abbrev pub IsReadWhole : Request → Option (List ℕ) → Option (List ℕ) → Type 0
IsReadWhole (Demo seed count) old new = Unit {0}
IsReadWhole other old new = IfSome old (λ input. new ≡ Some [])

-- what is read is told, and is within the limit, or has lines within theirs
abbrev pub IsInputWithin : Request → Option (List ℕ) → Type 0
IsInputWithin request left =
    IsSomeAnd (input_of request left) (λ input. MatchOption (limit_of request) (live_input.IsInputWithin (skips_of request) input) (λ limit. length input ≤ limit))

-- an input is past the limit, or a line of it is
abbrev pub IsPastLimit : Request → List ℕ → Type 0
IsPastLimit request input = MatchOption (limit_of request) (¬ live_input.IsInputWithin (skips_of request) input) (λ limit. limit < length input)

-- so many bytes at least are taken before that is known
abbrev pub past_size : Request → ℕ
past_size request = option_map_or (λ limit. limit + 1) (limit_of request) (MAX_BYTES + 1)

-- ---- the output
-- a fact of what is written, the input being these bytes, where they define it: which proposals are
-- written no definition says
abbrev pub OfOutput : Request → List ℕ → (List ℕ → Type 0) → Type 0
OfOutput (Lines mode) input P = P (mode_output mode input)
OfOutput (Check journal) input P = P (report_line journal input)
OfOutput Sessions input P = P (sessions_output input)
OfOutput (Serve served) input P = P (served_output served input)
OfOutput Propose input P = Unit {0}
OfOutput (Demo seed count) input P = P (demo_output seed count)

-- ---- the status
abbrev pub status_by : Report → Status
status_by (Sound batches bounded lines optimal) = Done
status_by (Faulty line reason) = CheckNo

-- the status once all is written
abbrev pub status_for : Request → List ℕ → Status
status_for (Check journal) input = status_by (report_in journal input)
status_for other input = Done

-- all was written
abbrev pub HasEnded : Status → Type 0
HasEnded status = (status ≡ Done) ⊎ (status ≡ CheckNo)

-- ---- facts of one request alone
-- what is promised of the bytes that are written for an input: its lines are told their answers,
-- and its messages each once; each book has its proposal
abbrev pub Promised : Request → List ℕ → List ℕ → Type 0
Promised (Lines mode) input bytes = TellAnswers (IsBesideIn mode) (step_in mode) input bytes
Promised (Check journal) input bytes = Unit {0}
Promised Sessions input bytes = TellOnce input bytes
Promised (Serve served) input bytes = ServedTell served input bytes
Promised Propose input bytes = IsWrittenFor input bytes
Promised (Demo seed count) input bytes = Unit {0}

-- and of those of which a front is written: the same, but that proposals may be for the books among
-- its first lines
abbrev pub PromisedFront : Request → List ℕ → List ℕ → Type 0
PromisedFront Propose input bytes = AnswerFirst input bytes
PromisedFront other input bytes = Promised other input bytes

abbrev pub WhereCheck : Request → (Journal → Type 0) → Type 0
WhereCheck (Check journal) P = P journal
WhereCheck other P = Unit {0}

-- whether it is a report on a journal
abbrev pub IsCheck : Request → Type 0
IsCheck (Check journal) = Unit {0}
IsCheck other = ⊥

abbrev pub WhereDemo : Request → Type 0 → Type 0
WhereDemo (Demo seed count) P = P
WhereDemo other P = Unit {0}

abbrev pub WhereServe : Request → (Served → Type 0) → Type 0
WhereServe (Serve served) P = P served
WhereServe other P = Unit {0}

abbrev pub WherePropose : Request → Type 0 → Type 0
WherePropose Propose P = P
WherePropose other P = Unit {0}

-- what had been written when the source was last read: nothing where all is read first, and else
-- the answers to the lines that were complete by then
abbrev pub HadWritten : Request → Option (List ℕ) → Option (List ℕ) → Option LastRead → Type 0
HadWritten (Serve served) left written last = IsServedInTime (WroteAnswers served) (skips_mark served) left written last
HadWritten Propose left written last = IsServedInTime WroteFor true left written last
HadWritten other left written last = IfSome last (λ now. now.written ≡ written)

-- a fact of what the words ask for
abbrev pub WithRequest : List (List ℕ) → (Request → Type 0) → Type 0
WithRequest words P = IfSome (request_of words) P
