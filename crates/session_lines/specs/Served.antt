-- A way of answering lines as the server of bodies, each a line of one input.
use Rattle.std.specs.Prelude.{◌≡◌, ℕ, ◌+◌, ◌-◌, List, [], ◌∷◌, ◌++◌, length, take}
use Rattle.session_gate.specs.Runs.{Replies}

-- a text without its last byte, which is its line feed
abbrev pub without_feed : List ℕ → List ℕ
without_feed text = take (length text - 1) text

-- what is written for a line ends with a line feed
abbrev pub EndsLines : {S : Type 0} → (ℕ → S → List ℕ → List ℕ × S) → Type 0
EndsLines {S} step = (number : ℕ) (state : S) (line : List ℕ) → (step number state line).0 ≡ without_feed (step number state line).0 ++ 10 ∷ []

-- the state after these bodies, the first of which is the line of this number
abbrev pub state_after : {S : Type 0} → (ℕ → S → List ℕ → List ℕ × S) → ℕ → S → List (List ℕ) → S
state_after step number state [] = state
state_after step number state (body ∷ bodies) = state_after step (number + 1) (step number state body).1 bodies

-- the reply to the last of these bodies, without its line feed
abbrev pub last_reply : {S : Type 0} → (ℕ → S → List ℕ → List ℕ × S) → ℕ → S → List (List ℕ) → List ℕ
last_reply step number state [] = []
last_reply step number state (body ∷ []) = without_feed (step number state body).0
last_reply step number state (body ∷ next ∷ bodies) = last_reply step (number + 1) (step number state body).1 (next ∷ bodies)

-- the reply of a server that took these bodies
abbrev pub reply_by : {S : Type 0} → (ℕ → S → List ℕ → List ℕ × S) → S → Replies
reply_by step start bodies = last_reply step 1 start bodies
