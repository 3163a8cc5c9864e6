-- What was taken and written when the answers to an input end. The bytes left and written are known
-- where they are told.
use Rattle.std.specs.Prelude.{◌≡◌, ℕ, List, ◌++◌}
use Rattle.std.specs.Io.KnownBytes.{Appends}
use Rattle.byte_streams.specs.Writes.{AppendsFront}
use Rattle.live_lines.specs.Serving.{Known}
use Rattle.book_proposals.specs.LiveAnswers.{AreAnswers, IsWrittenFor, texts_in}

-- all that is to be written for the bytes is written
abbrev pub WroteFor : Known → List ℕ → Type 0
WroteFor known bytes = (written : List ℕ) × IsWrittenFor bytes written × Appends known.written known.writes written

-- a front of it is
abbrev pub WroteFrontFor : Known → List ℕ → Type 0
WroteFrontFor known bytes = (written : List ℕ) × IsWrittenFor bytes written × AppendsFront known.written known.writes written

-- a front of the answers to the first lines of an input is written
abbrev pub WroteFrontOf : Known → List ℕ → Type 0
WroteFrontOf known input =
    (first : List (List ℕ)) × (later : List (List ℕ)) × (written : List ℕ) × (texts_in input ≡ first ++ later) × AreAnswers first written
    × AppendsFront known.written known.writes written
