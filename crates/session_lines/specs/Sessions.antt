-- Messages of sessions as lines: what is written for one, and what is kept.
use Rattle.std.specs.Prelude.{ℕ, ◌+◌, List, Option, None, Some}
use Rattle.session_gate.specs.declared.answer.Answer.{Answer}
use Rattle.session_gate.specs.declared.answer.Answer.TheVariants.{First, Repeat, Old, Ahead, Changed, Sessions}
use Rattle.session_gate.specs.Answers.{answer_to}
use Rattle.session_gate.specs.Gate.{GateState, Message, new_gate, with_accepted}
use Rattle.session_lines.specs.Answers.{kept_reply}
use Rattle.session_lines.specs.Messages.{message_in}
use Rattle.session_lines.specs.Served.{without_feed}
use Rattle.session_lines.specs.Texts.{answer_text, malformed_text}

-- what is written for a body of a session, which has this number among all bodies, and the state
-- after it
abbrev pub BodyStep : Type 0 → Type 0
BodyStep S = ℕ → ℕ → S → List ℕ → List ℕ × S

-- by a way of answering lines: whatever the session is
abbrev pub any_session : {S : Type 0} → (ℕ → S → List ℕ → List ℕ × S) → BodyStep S
any_session step session number state body = step number state body

-- the gate, and the state of what answers the bodies
abbrev pub SessionsState : Type 0 → Type 0
SessionsState S = GateState × S

abbrev pub new_sessions : {S : Type 0} → S → SessionsState S
new_sessions start = (new_gate, start)

-- after a message whose body is answered
abbrev pub after_answered : {S : Type 0} → BodyStep S → SessionsState S → Message → SessionsState S
after_answered step state message =
    let now = step message.session (state.0.served + 1) state.1 message.body in (with_accepted state.0 message (without_feed now.0), now.1)

-- after a message that is answered so
abbrev pub after_as : {S : Type 0} → BodyStep S → Answer → SessionsState S → Message → SessionsState S
after_as step First state message = after_answered step state message
after_as step Repeat state message = state
after_as step (Old expected) state message = state
after_as step (Ahead expected) state message = state
after_as step (Changed expected) state message = state
after_as step Sessions state message = state

abbrev pub after_message : {S : Type 0} → BodyStep S → SessionsState S → Message → SessionsState S
after_message step state message = after_as step (answer_to state.0 message) state message

-- what is written for what a line says, and the state after it
abbrev pub said_step : {S : Type 0} → BodyStep S → ℕ → SessionsState S → Option Message → List ℕ × SessionsState S
said_step step line state None = (malformed_text line, state)
said_step step line state (Some message) =
    let next = after_message step state message in
    (answer_text line message (answer_to state.0 message) (kept_reply next.0 message.session), next)

-- what is written for a line with its number, and the state after it
abbrev pub session_step : {S : Type 0} → BodyStep S → ℕ → SessionsState S → List ℕ → List ℕ × SessionsState S
session_step step number state line = said_step step number state (message_in line)
