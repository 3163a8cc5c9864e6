-- What a read does to the bytes left, to the count of bytes taken and to the count of faults.
use Rattle.std.specs.Prelude.{◌≡◌, ℕ, ◌≤◌, min, List, [], ◌∷◌, length, take, Option, IfSome}
use Rattle.std.specs.Io.KnownBytes.{Consumes, Keeps, IsAtEnd}
use Rattle.byte_streams.specs.declared.source.ReadAnswer.{ReadAnswer}
use Rattle.byte_streams.specs.declared.source.ReadAnswer.TheVariants.{Got, End, Failed}
use Rattle.byte_streams.specs.Faults.{Rose, raised_by}

-- a number of bytes that is told is from 1 to a limit
abbrev pub GotWithin : ReadAnswer → ℕ → Type 0
GotWithin (Got count) limit = (1 ≤ count) × (count ≤ limit)
GotWithin End limit = Unit {0}
GotWithin Failed limit = Unit {0}

-- Got takes the bytes that it gives. End comes only where none is left. Failed takes none.
abbrev pub Takes : Option (List ℕ) → Option (List ℕ) → ReadAnswer → List ℕ → Type 0
Takes old new (Got count) buf = Consumes old new (take count buf)
Takes old new End buf = Keeps old new × IsAtEnd old
Takes old new Failed buf = Keeps old new

-- as many bytes as fit, or the end where none is left
abbrev pub as_many_as_fit : ℕ → List ℕ → ReadAnswer
as_many_as_fit size [] = End
as_many_as_fit size (b ∷ bs) = Got (min size (length (b ∷ bs)))

-- the count of bytes taken after a read
abbrev pub taken_after : ℕ → ReadAnswer → ℕ
taken_after before (Got count) = raised_by before count
taken_after before End = before
taken_after before Failed = before

-- Failed comes only where the count of faults rose, and the count changes at no other answer
abbrev pub ReadCause : ℕ → ℕ → ReadAnswer → Type 0
ReadCause before now (Got count) = now ≡ before
ReadCause before now End = now ≡ before
ReadCause before now Failed = Rose before now

-- at most so many of the bytes left were taken
abbrev pub TakesUpTo : Option (List ℕ) → Option (List ℕ) → ℕ → Type 0
TakesUpTo old new limit = (bytes : List ℕ) × (length bytes ≤ limit) × Consumes old new bytes

-- how a source and a sink stood before a read: the bytes left, and those written
pub record LastRead : Type 0 where
  pub left : Option (List ℕ)
  pub written : Option (List ℕ)

-- it was last read when they stood so, where that is told
abbrev pub WasReadAt : Option LastRead → Option (List ℕ) → Option (List ℕ) → Type 0
WasReadAt last left written = IfSome last (λ now. now ≡ record { left = left; written = written })
