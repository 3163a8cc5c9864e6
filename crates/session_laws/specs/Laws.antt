-- What is promised of the answers to messages, where these may look at the session.
use Rattle.std.specs.Prelude.{ℕ, ◌≡◌, ◌+◌, ◌==◌, false, List, [], ◌∷◌, ◌++◌}
use Rattle.std.specs.List.{slice_split}
use Rattle.live_lines.specs.Output.{lines_output, output_of}
use Rattle.session_gate.specs.Gate.{Message}
use Rattle.session_gate.specs.Runs.{Replies}
use Rattle.session_lines.specs.Answers.{answers_by}
use Rattle.session_lines.specs.Laws.{TellOnce, accepted_messages}
use Rattle.session_lines.specs.Served.{without_feed}
use Rattle.session_lines.specs.Sessions.{BodyStep, new_sessions, session_step}

-- the answers to the bodies of messages, the first of which has this number among all
abbrev pub answers_to : {S : Type 0} → BodyStep S → ℕ → S → List Message → List ℕ
answers_to step number state [] = []
answers_to step number state (message ∷ messages) =
    let now = step message.session number state message.body in now.0 ++ answers_to step (number + 1) now.1 messages

-- the state after them
abbrev pub state_after : {S : Type 0} → BodyStep S → ℕ → S → List Message → S
state_after step number state [] = state
state_after step number state (message ∷ messages) = state_after step (number + 1) (step message.session number state message.body).1 messages

-- what is written for a body ends with a line feed
abbrev pub EndsBodies : {S : Type 0} → BodyStep S → Type 0
EndsBodies {S} step = (session number : ℕ) (state : S) (body : List ℕ) → (step session number state body).0 ≡ without_feed (step session number state body).0 ++ 10 ∷ []

-- What is written for an input tells each message once, by some replies: those to the messages that
-- are answered First are the answers to their bodies, and the state after it is that after these.
pub record ToldOnce {S : Type 0} (step : BodyStep S) (start : S) (input : List ℕ) : Type 0 where
  pub reply : Replies
  pub once : TellOnce reply (λ bodies. answers_to step 1 start (accepted_messages (answers_by reply input))) input (output_of (session_step step) false (new_sessions start) input)
  pub state : (lines_output (session_step step) false 1 (new_sessions start) (slice_split (λ b. b == 10) input)).1.1
      ≡ state_after step 1 start (accepted_messages (answers_by reply input))

abbrev pub MessagesTellOnce : {S : Type 0} → BodyStep S → Type 0
MessagesTellOnce {S} step = EndsBodies step → (start : S) (input : List ℕ) → ToldOnce step start input
