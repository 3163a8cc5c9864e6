-- What became of the bytes of a piece, and of what a read told.
use Rattle.std.specs.Prelude.{◌≡◌, ◌≤◌, ◌⊎◌, ℕ, List, [], ◌++◌, length, take, Option, None, Some, Result, Ok, Err, Bool, true, false}
use Rattle.std.specs.Io.KnownBytes.{Appends}
use Rattle.byte_streams.specs.Faults.{Rose}
use Rattle.byte_streams.specs.Writes.{AppendsFront}
use Rattle.byte_streams.specs.declared.stop.IoStop.{IoStop}
use Rattle.byte_streams.specs.declared.stop.IoStop.TheVariants.{ReadFault, WriteFault, TooLong, Memory}
use Rattle.byte_streams.specs.declared.source.ReadAnswer.{ReadAnswer}
use Rattle.byte_streams.specs.declared.source.ReadAnswer.TheVariants.{Got, End, Failed}
use Rattle.live_lines.specs.Answering.{Answering, AnswersLine, IsLastAnswer}
use Rattle.live_lines.specs.Open.{Open, line_text}
use Rattle.live_lines.specs.Taken.{Completes, Stops, Took}

-- so many of the bytes were taken, and what is written for them was added to a text; none where
-- they tell a line that is too long
abbrev pub Turned : {S : Type 0} → Answering S → S → Open → S → Open → List ℕ → List ℕ → List ℕ → Option ℕ → Type 0
Turned Answers old line new next bytes before after (Some used) =
    (1 ≤ used) × (used ≤ length bytes) × (text : List ℕ) × (after ≡ before ++ text) × Took Answers old line new next (take used bytes) text
Turned Answers old line new next bytes before after None = (after ≡ before) × Stops Answers old line bytes []

-- the bytes were taken, and what is written for them is written but for this text
pub record Answered {S : Type 0} (Answers : Answering S) (old : S) (line : Open) (new : S) (next : Open) (written writes : Option (List ℕ)) (bytes text : List ℕ) : Type 0 where
  pub told : List ℕ
  pub wrote : Appends written writes told
  pub took : Took Answers old line new next bytes (told ++ text)

-- an answer to the line that is left at the end is written
abbrev pub WroteLast : {S : Type 0} → Answering S → S → Open → Option (List ℕ) → Option (List ℕ) → Type 0
WroteLast Answers old line written writes = (text : List ℕ) × IsLastAnswer Answers old line text × Appends written writes text

-- a front of one is, or nothing
abbrev pub BeganLast : {S : Type 0} → Answering S → S → Open → Option (List ℕ) → Option (List ℕ) → Type 0
BeganLast Answers old line written writes = (writes ≡ written) ⊎ ((text : List ℕ) × IsLastAnswer Answers old line text × AppendsFront written writes text)

-- an answer to the line as far as it is there was added to a text
abbrev pub AddsAnswer : {S : Type 0} → Answering S → S → Open → S → List ℕ → List ℕ → Type 0
AddsAnswer Answers old line new before after =
    (text : List ℕ) × (after ≡ before ++ text) × AnswersLine Answers line.number old (line_text line.skips line.number line.rest) text new

-- ---- one turn, by what one read told; the bytes written and the faults of writes are those before and after
-- a front of the answers to lines that the bytes complete is written
abbrev pub BeganLines : {S : Type 0} → Answering S → S → Open → List ℕ → Option (List ℕ) → Option (List ℕ) → Type 0
BeganLines Answers old line bytes written writes = (text : List ℕ) × AppendsFront written writes text × Completes Answers old line bytes text

-- bytes came: all lines that they complete are answered and the answers written, and the input goes
-- on; or it ends so
abbrev pub TurnsBy : {S : Type 0} → Answering S → S → Open → S → Open → List ℕ → Option (List ℕ) → Option (List ℕ) → ℕ → ℕ → Result Bool IoStop → Type 0
TurnsBy Answers old line new next bytes written writes fault faults (Ok true) =
    (faults ≡ fault) × (text : List ℕ) × Appends written writes text × Took Answers old line new next bytes text
TurnsBy Answers old line new next bytes written writes fault faults (Err TooLong) =
    (text : List ℕ) × Appends written writes text × Stops Answers old line bytes text
TurnsBy Answers old line new next bytes written writes fault faults (Err WriteFault) =
    Rose fault faults × BeganLines Answers old line bytes written writes
TurnsBy Answers old line new next bytes written writes fault faults (Err Memory) = BeganLines Answers old line bytes written writes
TurnsBy Answers old line new next bytes written writes fault faults (Ok false) = ⊥
TurnsBy Answers old line new next bytes written writes fault faults (Err ReadFault) = ⊥

-- no byte is left: the line that is left is answered
abbrev pub TurnsLast : {S : Type 0} → Answering S → S → Open → Option (List ℕ) → Option (List ℕ) → ℕ → ℕ → Result Bool IoStop → Type 0
TurnsLast Answers old line written writes fault faults (Ok true) = ⊥
TurnsLast Answers old line written writes fault faults (Ok false) = WroteLast Answers old line written writes
TurnsLast Answers old line written writes fault faults (Err WriteFault) = Rose fault faults × BeganLast Answers old line written writes
TurnsLast Answers old line written writes fault faults (Err Memory) = BeganLast Answers old line written writes
TurnsLast Answers old line written writes fault faults (Err TooLong) = ⊥
TurnsLast Answers old line written writes fault faults (Err ReadFault) = ⊥

-- so many bytes of the buffer, or none: where the read failed, nothing is answered and nothing
-- written
abbrev pub TurnsTo : {S : Type 0} → Answering S → S → Open → S → Open → ReadAnswer → List ℕ → Option (List ℕ) → Option (List ℕ) → ℕ → ℕ → Result Bool IoStop → Type 0
TurnsTo Answers old line new next (Got count) buf written writes fault faults end =
    TurnsBy Answers old line new next (take count buf) written writes fault faults end
TurnsTo Answers old line new next End buf written writes fault faults end = TurnsLast Answers old line written writes fault faults end
TurnsTo Answers old line new next Failed buf written writes fault faults end =
    (end ≡ Err ReadFault) × (writes ≡ written) × (new ≡ old) × (next ≡ line)
