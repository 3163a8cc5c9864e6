-- What was written of bytes that keep a promise.
use Rattle.std.specs.Prelude.{List, ℕ, Option}
use Rattle.std.specs.Io.KnownBytes.{Appends}
use Rattle.byte_streams.specs.Writes.{AppendsFront}

-- such bytes were written
abbrev pub Wrote : Option (List ℕ) → Option (List ℕ) → (List ℕ → Type 0) → Type 0
Wrote old new Are = (bytes : List ℕ) × Are bytes × Appends old new bytes

-- or a front of such bytes
abbrev pub WroteFront : Option (List ℕ) → Option (List ℕ) → (List ℕ → Type 0) → Type 0
WroteFront old new Are = (bytes : List ℕ) × Are bytes × AppendsFront old new bytes
