-- Ways of answering lines, over states of any type. A way may leave open which text is written: it
-- is a relation.
use Rattle.std.specs.Prelude.{◌≡◌, ℕ, ◌+◌, ◌==◌, Bool, List, [], ◌∷◌, ◌++◌}
use Rattle.std.specs.List.{slice_split}
use Rattle.live_lines.specs.Open.{Open, line_text}

-- for a line with its number in a state: which text may be written, and which state is after it
abbrev pub Answering : Type 0 → Type 1
Answering S = ℕ → S → List ℕ → List ℕ → S → Type 0

-- by a function: just its text, and its state
abbrev pub by_step : {S : Type 0} → (ℕ → S → List ℕ → List ℕ × S) → ℕ → S → List ℕ → List ℕ → S → Type 0
by_step step number old line text new = (text, new) ≡ step number old line

-- an empty line is counted and not answered
abbrev pub AnswersLine : {S : Type 0} → Answering S → ℕ → S → List ℕ → List ℕ → S → Type 0
AnswersLine Answers number old [] text new = (text ≡ []) × (new ≡ old)
AnswersLine Answers number old (b ∷ line) text new = Answers number old (b ∷ line) text new

-- lines, the first of which has this number
abbrev pub AnswersLines : {S : Type 0} → Answering S → Bool → ℕ → S → List (List ℕ) → List ℕ → S → Type 0
AnswersLines {S} Answers skips number old [] text new = (text ≡ []) × (new ≡ old)
AnswersLines {S} Answers skips number old (line ∷ lines) text new =
    (first : List ℕ) × (mid : S) × (rest : List ℕ) × AnswersLine Answers number old (line_text skips number line) first mid
    × AnswersLines Answers skips (number + 1) mid lines rest new × (text ≡ first ++ rest)

-- at the end, for a line that has not ended
abbrev pub IsLastAnswer : {S : Type 0} → Answering S → S → Open → List ℕ → Type 0
IsLastAnswer {S} Answers old line text = (new : S) × AnswersLine Answers line.number old (line_text line.skips line.number line.rest) text new

-- the text is written for an input, from a state on
abbrev pub IsOutput : {S : Type 0} → Answering S → Bool → S → List ℕ → List ℕ → Type 0
IsOutput {S} Answers skips start input text = (end : S) × AnswersLines Answers skips 1 start (slice_split (λ b. b == 10) input) text end

-- the text is written for the first lines of an input
abbrev pub IsFirstOutput : {S : Type 0} → Answering S → Bool → S → List ℕ → List ℕ → Type 0
IsFirstOutput {S} Answers skips start input text =
    (first : List (List ℕ)) × (later : List (List ℕ)) × (end : S) × (slice_split (λ b. b == 10) input ≡ first ++ later)
    × AnswersLines Answers skips 1 start first text end
