-- What is written when lines or messages are answered between two reads.
use Rattle.std.specs.Prelude.{◌≡◌, ℕ, Bool, true, false, List, ◌++◌, Option, Result, Ok, Err}
use Rattle.std.specs.Io.KnownBytes.{Appends}
use Rattle.byte_streams.specs.Writes.{AppendsFront}
use Rattle.byte_streams.specs.declared.stop.IoStop.{IoStop}
use Rattle.byte_streams.specs.declared.stop.IoStop.TheVariants as stop
use Rattle.asked_lines.specs.Apart.{TellBeside}
use Rattle.book_proposals.specs.LiveAnswers.{AreAnswers, texts_in}
use Rattle.exchange_sessions.specs.AllLines.{TellAllOnce, all_sessions_output}
use Rattle.exchange_sessions.specs.Members.{TellMembersOnce, all_members_output}
use Rattle.live_lines.specs.Serving.{Counts, IsServed, Known}
use Rattle.program_words.specs.declared.requests.Served.{Served}
use Rattle.program_words.specs.declared.requests.Served.TheVariants.{Lines, Members, Sessions}
use Rattle.served_members.specs.SecuredAsked.{asked_output, secured_asks}
use Rattle.served_members.specs.SecuredOutput.{secured_line}
use Rattle.served_members.specs.SecuredState.{empty_secured}
use Rattle.served_members.specs.Lines.{TellServed}
use Rattle.exchange_program.specs.declared.status.Status.{Status}
use Rattle.exchange_program.specs.declared.status.Status.TheVariants.{Done, ReadFault, WriteFault, TooLong, Memory}

-- what a source and a sink tell of a call, before it and after it: bytes left and written, and counts
-- of faults and of bytes taken
abbrev pub known_by : {S K : Type 0} → (S → Option (List ℕ)) → (K → Option (List ℕ)) → S → S → K → K → Known
known_by left written source source_then sink sink_then =
    record { left = left source; still = left source_then; written = written sink; writes = written sink_then }

abbrev pub counts_by : {S K : Type 0} → (S → ℕ) → (S → ℕ) → (K → ℕ) → S → S → K → K → Counts
counts_by read taken write source source_then sink sink_then = record {
  read = read source;
  reads = read source_then;
  write = write sink;
  writes = write sink_then;
  taken = taken source;
  takes = taken source_then;
}

-- the status at an end of the answers
abbrev pub status_at : Result (Unit {0}) IoStop → Status
status_at (Ok done) = Done
status_at (Err stop.ReadFault) = ReadFault
status_at (Err stop.WriteFault) = WriteFault
status_at (Err stop.TooLong) = TooLong
status_at (Err stop.Memory) = Memory

-- the status tells how the answers ended, and this holds of that end
abbrev pub EndsAs : Status → (Result (Unit {0}) IoStop → Type 0) → Type 0
EndsAs status Holds = (ended : Result (Unit {0}) IoStop) × (status ≡ status_at ended) × Holds ended

-- ---- lines of every kind, and messages whose bodies are such lines; some may ask between them
-- no byte of messages is skipped
abbrev pub skips_mark : Served → Bool
skips_mark Lines = true
skips_mark Sessions = false
skips_mark Members = false

-- what is written for an input
abbrev pub served_output : Served → List ℕ → List ℕ
served_output Lines input = asked_output input
served_output Sessions input = all_sessions_output input
served_output Members input = all_members_output input

-- what is promised of it: the lines are told their answers, and the messages each once, by the rule
-- where there is one; and those that ask change nothing
abbrev pub ServedTell : Served → List ℕ → List ℕ → Type 0
ServedTell Lines input bytes = TellBeside secured_asks secured_line true empty_secured TellServed input bytes
ServedTell Sessions input bytes = TellAllOnce input bytes
ServedTell Members input bytes = TellMembersOnce input bytes

-- the output of these bytes is written, and keeps what is promised of it; or a front of it is
abbrev pub WroteAnswers : Served → Known → List ℕ → Type 0
WroteAnswers served known bytes = Appends known.written known.writes (served_output served bytes) × ServedTell served bytes (served_output served bytes)

abbrev pub WroteAnswersFront : Served → Known → List ℕ → Type 0
WroteAnswersFront served known bytes = AppendsFront known.written known.writes (served_output served bytes) × ServedTell served bytes (served_output served bytes)

-- how the answers end
abbrev pub IsServedAs : Served → Known → Counts → Result (Unit {0}) IoStop → Type 0
IsServedAs served known counts ended =
    IsServed (WroteAnswers served) (WroteAnswersFront served) (WroteAnswersFront served) (skips_mark served) known counts ended

-- ---- proposals
-- the bytes are answers to the first lines of the input, one to each
abbrev pub AnswerFirst : List ℕ → List ℕ → Type 0
AnswerFirst input bytes = (first : List (List ℕ)) × (later : List (List ℕ)) × (texts_in input ≡ first ++ later) × AreAnswers first bytes
