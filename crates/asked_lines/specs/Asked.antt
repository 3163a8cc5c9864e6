-- Lines that ask, beside a way of answering lines.
use Rattle.std.specs.Prelude.{ℕ, ◌+◌, ◌-◌, ◌==◌, Bool, false, List, [], ◌∷◌, if◌then◌else◌}

-- a line that begins with `?`, and what it asks
abbrev pub is_question : List ℕ → Bool
is_question [] = false
is_question (b ∷ line) = b == 63

abbrev pub asked_by : List ℕ → List ℕ
asked_by [] = []
asked_by (b ∷ line) = line

-- how many lines asked, and the state of what answers the others
pub record AskedState (S : Type 0) : Type 0 where
  pub asked : ℕ
  pub inner : S

abbrev pub asked_state : {S : Type 0} → ℕ → S → AskedState S
asked_state asked inner = record { asked = asked; inner = inner }

abbrev pub asking_first : {S : Type 0} → S → AskedState S
asking_first start = asked_state 0 start

-- a line that is answered
abbrev pub other_step : {S : Type 0} → (ℕ → S → List ℕ → List ℕ × S) → ℕ → AskedState S → List ℕ → List ℕ × AskedState S
other_step step number state line = let now = step (number - state.asked) state.inner line in (now.0, asked_state state.asked now.1)

-- one that asks, with the number that the next line would have
abbrev pub question_step : {S : Type 0} → (ℕ → S → List ℕ → List ℕ) → ℕ → AskedState S → List ℕ → List ℕ × AskedState S
question_step ask number state line = (ask (number - state.asked) state.inner (asked_by line), asked_state (state.asked + 1) state.inner)

abbrev pub asked_step : {S : Type 0} → (ℕ → S → List ℕ → List ℕ) → (ℕ → S → List ℕ → List ℕ × S) → ℕ → AskedState S → List ℕ → List ℕ × AskedState S
asked_step ask step number state line = if is_question line then question_step ask number state line else other_step step number state line
