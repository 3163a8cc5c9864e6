-- One turn, of which also the read is known: how it leaves what is left to be read.
use Rattle.std.proofs.Common.{◌≡◌, ◌≤◌, ◌⊎◌, ℕ, List, length, take, refl, sym, ap, ◌∙◌, subst, inl, inr, arith, length-take-le, Option, Result, Ok, Err, Bool, true, false}
use Rattle.std.specs.Io.KnownBytes.{Appends, Consumes, IsAtEnd, Keeps}
use Rattle.byte_streams.specs.Faults.{Rose, raised_by}
use Rattle.byte_streams.specs.Reads.{GotWithin, ReadCause, Takes, taken_after}
use Rattle.byte_streams.specs.Writes.{AppendsFront}
use Rattle.byte_streams.specs.declared.source.ReadAnswer.{ReadAnswer}
use Rattle.byte_streams.specs.declared.source.ReadAnswer.TheVariants.{Got, End, Failed}
use Rattle.live_lines.specs.Answering.{Answering}
use Rattle.live_lines.specs.Open.{Open}
use Rattle.live_lines.specs.Serving.{Counts, Known}
use Rattle.live_lines.specs.Taken.{Completes, Stops, Took}
use Rattle.live_lines.specs.Turns.{BeganLast, BeganLines, TurnsBy, TurnsLast, TurnsTo, WroteLast}
use Rattle.byte_streams.specs.declared.stop.IoStop.{IoStop}
use Rattle.byte_streams.specs.declared.stop.IoStop.TheVariants.{ReadFault, WriteFault, TooLong, Memory}

-- these bytes came and were counted, what they complete is answered and written, and no call failed
pub record Came {S : Type 0} (Answers : Answering S) (old : S) (line : Open) (new : S) (next : Open) (known : Known) (counts : Counts) : Type 0 where
  pub bytes : List ℕ
  pub text : List ℕ
  pub gave : Consumes known.left known.still bytes
  pub counted : counts.takes ≡ raised_by counts.taken (length bytes)
  pub wrote : Appends known.written known.writes text
  pub took : Took Answers old line new next bytes text
  pub read_calm : counts.reads ≡ counts.read
  pub write_calm : counts.writes ≡ counts.write

-- no byte is left, as before
abbrev pub IsOver : Known → Type 0
IsOver known = Keeps known.left known.still × IsAtEnd known.left

-- these bytes, at most so many, came and were counted, and tell a line that is too long; the
-- answers to the lines before it are written
abbrev pub TellsTooLong : {S : Type 0} → Answering S → S → Open → ℕ → Known → Counts → Type 0
TellsTooLong Answers old line limit known counts =
    (bytes : List ℕ) × (text : List ℕ) × Consumes known.left known.still bytes × (length bytes ≤ limit) × (counts.takes ≡ raised_by counts.taken (length bytes))
    × Appends known.written known.writes text × Stops Answers old line bytes text

-- a front of the answers to lines that the bytes of a read complete is written; or no byte is left,
-- and it is one of a last answer, or nothing
abbrev pub BeganSome : {S : Type 0} → Answering S → S → Open → Known → Type 0
BeganSome Answers old line known =
    ((bytes : List ℕ) × (text : List ℕ) × Consumes known.left known.still bytes × AppendsFront known.written known.writes text × Completes Answers old line bytes text)
    ⊎ (IsOver known × BeganLast Answers old line known.written known.writes)

-- what the read and the turn did together, where at most so many bytes were read: the input goes
-- on, or ends so
abbrev pub ReadsTo : {S : Type 0} → Answering S → S → Open → S → Open → ℕ → Known → Counts → Result Bool IoStop → Type 0
ReadsTo Answers old line new next limit known counts (Ok true) =
    (came : Came Answers old line new next known counts) × (1 ≤ length came.bytes) × (length came.bytes ≤ limit)
ReadsTo Answers old line new next limit known counts (Ok false) = IsOver known × WroteLast Answers old line known.written known.writes
ReadsTo Answers old line new next limit known counts (Err ReadFault) =
    Keeps known.left known.still × (known.writes ≡ known.written) × Rose counts.read counts.reads
ReadsTo Answers old line new next limit known counts (Err WriteFault) = BeganSome Answers old line known × Rose counts.write counts.writes
ReadsTo Answers old line new next limit known counts (Err TooLong) = TellsTooLong Answers old line limit known counts × (counts.reads ≡ counts.read)
ReadsTo Answers old line new next limit known counts (Err Memory) = BeganSome Answers old line known

module _ {S : Type 0} (Answers : Answering S) (old : S) (line : Open) (new : S) (next : Open) where
  -- a stop ends it
  pub take_stops : (bytes : List ℕ) (written writes : Option (List ℕ)) (fault faults : ℕ) (e : IoStop)
      → BeganLines Answers old line bytes written writes → (e ≡ ReadFault → ⊥) → (e ≡ WriteFault → Rose fault faults)
      → (e ≡ TooLong → (text : List ℕ) × Appends written writes text × Stops Answers old line bytes text)
      → TurnsBy Answers old line new next bytes written writes fault faults (Err e)
  take_stops bytes written writes fault faults ReadFault began none rose long = none refl
  take_stops bytes written writes fault faults WriteFault began none rose long = (rose refl, began)
  take_stops bytes written writes fault faults TooLong began none rose long = long refl
  take_stops bytes written writes fault faults Memory began none rose long = began

  pub last_stops : (written writes : Option (List ℕ)) (fault faults : ℕ) (e : IoStop)
      → BeganLast Answers old line written writes → (e ≡ ReadFault → ⊥) → (e ≡ WriteFault → Rose fault faults) → (e ≡ TooLong → ⊥)
      → TurnsLast Answers old line written writes fault faults (Err e)
  last_stops written writes fault faults ReadFault began read rose none = read refl
  last_stops written writes fault faults WriteFault began read rose none = (rose refl, began)
  last_stops written writes fault faults TooLong began read rose none = none refl
  last_stops written writes fault faults Memory began read rose none = began

  module _ (known : Known) (counts : Counts) where
    by_bytes : (limit : ℕ) (bytes : List ℕ) (end : Result Bool IoStop) → Consumes known.left known.still bytes → 1 ≤ length bytes → length bytes ≤ limit
        → counts.takes ≡ raised_by counts.taken (length bytes) → counts.reads ≡ counts.read
        → TurnsBy Answers old line new next bytes known.written known.writes counts.write counts.writes end
        → ReadsTo Answers old line new next limit known counts end
    by_bytes limit bytes (Ok true) gave some low counted calm h = (
      record {
        bytes = bytes;
        text = h.1;
        gave = gave;
        counted = counted;
        wrote = h.2;
        took = h.3;
        read_calm = calm;
        write_calm = h.0;
      },
      some,
      low,
    )
    by_bytes limit bytes (Err TooLong) gave some low counted calm h = ((bytes, h.0, gave, low, counted, h.1, h.2), calm)
    by_bytes limit bytes (Err WriteFault) gave some low counted calm h = (inl (bytes, h.1.0, gave, h.1.1, h.1.2), h.0)
    by_bytes limit bytes (Err Memory) gave some low counted calm h = inl (bytes, h.0, gave, h.1, h.2)
    by_bytes limit bytes (Ok false) gave some low counted calm h = absurd h
    by_bytes limit bytes (Err ReadFault) gave some low counted calm h = absurd h

    at_end : (limit : ℕ) (end : Result Bool IoStop) → IsOver known → TurnsLast Answers old line known.written known.writes counts.write counts.writes end
        → ReadsTo Answers old line new next limit known counts end
    at_end limit (Ok true) over h = absurd h
    at_end limit (Ok false) over h = (over, h)
    at_end limit (Err WriteFault) over h = (inr (over, h.1), h.0)
    at_end limit (Err Memory) over h = inr (over, h)
    at_end limit (Err TooLong) over h = absurd h
    at_end limit (Err ReadFault) over h = absurd h

    -- the read, and the turn by what it told
    pub reads_to : (buf : List ℕ) (answer : ReadAnswer) (end : Result Bool IoStop) → GotWithin answer (length buf) → Takes known.left known.still answer buf
        → counts.takes ≡ taken_after counts.taken answer → ReadCause counts.read counts.reads answer
        → TurnsTo Answers old line new next answer buf known.written known.writes counts.write counts.writes end
        → ReadsTo Answers old line new next (length buf) known counts end
    reads_to buf (Got count) end fits gave counted calm h =
        let size : length (take count buf) ≡ count = length-take-le count buf fits.1 in
        by_bytes (length buf) (take count buf) end gave (omega (arith, size, fits.0)) (omega (arith, size, fits.1))
        (counted ∙ ap (raised_by counts.taken) (sym size)) calm h
    reads_to buf End end fits gave counted calm h = at_end (length buf) end gave h
    reads_to buf Failed end fits gave counted rose h = subst (ReadsTo Answers old line new next (length buf) known counts) (sym h.0) (gave, h.1, rose)
