-- What a write does to the bytes written and to the count of faults.
use Rattle.std.specs.Prelude.{◌≡◌, ℕ, ◌≤◌, List, length, take, Option}
use Rattle.std.specs.Io.KnownBytes.{Appends, Keeps}
use Rattle.byte_streams.specs.declared.sink.WriteAnswer.{WriteAnswer}
use Rattle.byte_streams.specs.declared.sink.WriteAnswer.TheVariants.{Took, Failed}
use Rattle.byte_streams.specs.Faults.{Rose}

-- a number of bytes that is told is from 1 to a limit
abbrev pub TookWithin : WriteAnswer → ℕ → Type 0
TookWithin (Took count) limit = (1 ≤ count) × (count ≤ limit)
TookWithin Failed limit = Unit {0}

-- Took appends the front of the piece that it took. Failed appends nothing.
abbrev pub Writes : Option (List ℕ) → Option (List ℕ) → WriteAnswer → List ℕ → Type 0
Writes old new (Took count) piece = Appends old new (take count piece)
Writes old new Failed piece = Keeps old new

-- Failed comes only where the count of faults rose, and the count changes at no other answer
abbrev pub WriteCause : ℕ → ℕ → WriteAnswer → Type 0
WriteCause before now (Took count) = now ≡ before
WriteCause before now Failed = Rose before now

-- a front of the piece was appended
abbrev pub AppendsFront : Option (List ℕ) → Option (List ℕ) → List ℕ → Type 0
AppendsFront old new piece = (count : ℕ) × (count ≤ length piece) × Appends old new (take count piece)
