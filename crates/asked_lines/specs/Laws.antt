-- What is promised of asking.
use Rattle.std.specs.Prelude.{◌≡◌, ⊤, ℕ, ◌+◌, ◌==◌, Bool, true, false, List, [], ◌∷◌, ◌++◌, if◌then◌else◌}
use Rattle.std.specs.List.{slice_split}
use Rattle.live_lines.specs.Open.{line_text}
use Rattle.live_lines.specs.Output.{answer_to, lines_output, output_of}
use Rattle.asked_lines.specs.Asked.{AskedState, asked_step, asking_first, is_question}

-- ---- what is written, line by line
-- what is written for a line, and whether it asks
pub record ToldLine : Type 0 where
  pub asks : Bool
  pub text : List ℕ

-- for lines, the first of which has this number among all, and the state after them
abbrev pub told_from : {S : Type 0} → (ℕ → S → List ℕ → List ℕ) → (ℕ → S → List ℕ → List ℕ × S) → Bool → ℕ → AskedState S → List (List ℕ) → List ToldLine × AskedState S
told_from ask step skips number state [] = ([], state)
told_from ask step skips number state (line ∷ lines) =
    let text = line_text skips number line in
    let now = answer_to (asked_step ask step) number state text in
    let later = told_from ask step skips (number + 1) now.1 lines in
    (record { asks = is_question text; text = now.0 } ∷ later.0, later.1)

abbrev pub all_text : List ToldLine → List ℕ
all_text [] = []
all_text (told ∷ more) = told.text ++ all_text more

-- for those that ask nothing
abbrev pub other_text : List ToldLine → List ℕ
other_text [] = []
other_text (told ∷ more) = (if told.asks then [] else told.text) ++ other_text more

-- ---- without what asks
-- the lines that ask nothing
abbrev pub other_lines : Bool → ℕ → List (List ℕ) → List (List ℕ)
other_lines skips number [] = []
other_lines skips number (line ∷ lines) =
    let later = other_lines skips (number + 1) lines in
    if is_question (line_text skips number line) then later else line ∷ later

-- a line that is not the last has a line feed behind it
abbrev pub feed_before : List (List ℕ) → List ℕ → List ℕ
feed_before [] bytes = []
feed_before (line ∷ lines) bytes = 10 ∷ bytes

abbrev pub other_bytes : Bool → ℕ → List (List ℕ) → List ℕ
other_bytes skips number [] = []
other_bytes skips number (line ∷ lines) =
    let later = other_bytes skips (number + 1) lines in
    if is_question (line_text skips number line) then later else line ++ feed_before lines later

abbrev pub lines_of : List ℕ → List (List ℕ)
lines_of input = slice_split (λ b. b == 10) input

-- an input without the lines that ask, each with its line feed
abbrev pub without_questions : Bool → List ℕ → List ℕ
without_questions skips input = other_bytes skips 1 (lines_of input)

-- the first line that asks nothing is read alike where it is the first of all
abbrev pub IsUnmarked : Bool → ℕ → List (List ℕ) → Type 0
IsUnmarked skips number [] = ⊤
IsUnmarked skips number (line ∷ lines) =
    (is_question (line_text skips number line) ≡ true → IsUnmarked skips (number + 1) lines)
    × (is_question (line_text skips number line) ≡ false → line_text skips 1 line ≡ line_text skips number line)

-- ---- the law
-- Of what is written for an input, line by line, the parts of the lines that ask nothing are what is
-- written for the input without the others, and the state after it is the same.
pub record ChangesNothing {S : Type 0} (ask : ℕ → S → List ℕ → List ℕ) (step : ℕ → S → List ℕ → List ℕ × S) (skips : Bool) (start : S) (input : List ℕ) : Type 0 where
  pub whole : output_of (asked_step ask step) skips (asking_first start) input ≡ all_text (told_from ask step skips 1 (asking_first start) (lines_of input)).0
  pub others : other_text (told_from ask step skips 1 (asking_first start) (lines_of input)).0 ≡ output_of step skips start (without_questions skips input)
  pub state : (told_from ask step skips 1 (asking_first start) (lines_of input)).1.inner ≡ (lines_output step skips 1 start (lines_of (without_questions skips input))).1

abbrev pub AskingChangesNothing : {S : Type 0} → (ℕ → S → List ℕ → List ℕ) → (ℕ → S → List ℕ → List ℕ × S) → Type 0
AskingChangesNothing {S} ask step =
    (skips : Bool) (start : S) (input : List ℕ) → IsUnmarked skips 1 (lines_of input) → ChangesNothing ask step skips start input
