-- What is written for lines: one answer for each that is not empty, in their order. No definition
-- says which proposal an answer has, so this is a relation.
use Rattle.std.specs.Prelude.{ℕ, ◌≡◌, ◌+◌, ◌==◌, Bool, true, List, [], ◌∷◌, ◌++◌, length, if◌then◌else◌}
use Rattle.std.specs.List.{slice_split}
use Rattle.live_lines.specs.Open.{line_text}
use Rattle.book_proposals.specs.Answers.{IsAnswerTo}

-- a text, unless it is empty, before others
abbrev pub unless_empty : List ℕ → List (List ℕ) → List (List ℕ)
unless_empty text texts = if length text == 0 then texts else text ∷ texts

-- what is answered of lines, the first of which has this number: the mark before the first is
-- skipped, and a carriage return at an end is taken away
abbrev pub texts_from : Bool → ℕ → List (List ℕ) → List (List ℕ)
texts_from skips number [] = []
texts_from skips number (line ∷ lines) = unless_empty (line_text skips number line) (texts_from skips (number + 1) lines)

-- the lines of bytes that are answered
abbrev pub texts_in : List ℕ → List (List ℕ)
texts_in bytes = texts_from true 1 (slice_split (λ b. b == 10) bytes)

abbrev pub AreAnswers : List (List ℕ) → List ℕ → Type 0
AreAnswers [] written = written ≡ []
AreAnswers (text ∷ texts) written =
    (first : List ℕ) × (rest : List ℕ) × IsAnswerTo text first × AreAnswers texts rest × (written ≡ first ++ rest)

-- the text is what is written for the lines of these bytes
abbrev pub IsWrittenFor : List ℕ → List ℕ → Type 0
IsWrittenFor bytes written = AreAnswers (texts_in bytes) written

-- this way of answering, whatever the state
abbrev pub proposes : {S : Type 0} → ℕ → S → List ℕ → List ℕ → S → Type 0
proposes number old line text new = IsAnswerTo line text
