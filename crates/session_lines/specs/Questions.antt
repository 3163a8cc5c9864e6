-- Questions between messages: SESSION,BODY, what stands before it being taken away.
use Rattle.std.specs.Prelude.{ℕ, ◌+◌, List, ◌++◌, Option, None, Some, codes, decimal, if◌then◌else◌}
use Rattle.std.specs.Option.{option_and_then, option_map_or}
use Rattle.limits.specs.declared.TheConstants.{MAX_SESSION}
use Rattle.session_gate.specs.Bodies.{is_body}
use Rattle.session_lines.specs.Messages.{at_comma, number_to}
use Rattle.session_lines.specs.Served.{without_feed}
use Rattle.session_lines.specs.Sessions.{SessionsState}
use Rattle.session_lines.specs.Texts.{malformed_text}

-- what is written for what a session asks in a state, with the number that the next body would have
abbrev pub BodyQuestion : Type 0 → Type 0
BodyQuestion S = ℕ → ℕ → S → List ℕ → List ℕ

-- by a way of answering lines: whatever the session is
abbrev pub any_asks : {S : Type 0} → (ℕ → S → List ℕ → List ℕ) → BodyQuestion S
any_asks asks session number state body = asks number state body

-- a session and what it asks, where the number is read and the body is one
abbrev pub question_with : Option ℕ → List ℕ → Option (ℕ × List ℕ)
question_with None body = None
question_with (Some session) body = if is_body body then Some (session, body) else None

-- split at the first comma
abbrev pub question_in : List ℕ → Option (ℕ × List ℕ)
question_in line = option_and_then (λ parts. question_with (number_to MAX_SESSION parts.0) parts.1) (at_comma line)

-- the line that tells what is answered: behind the reply, and whole
abbrev pub asked_tail : ℕ → List ℕ
asked_tail session = codes ",\"reply\":\"asked\",\"session\":" ++ (decimal session ++ codes "}\n")

abbrev pub asked_text : ℕ → List ℕ → List ℕ
asked_text session reply = codes "{\"of\":" ++ (reply ++ asked_tail session)

-- the session need not be known, and the gate is not looked at but for the number of bodies
abbrev pub asked_of : {S : Type 0} → BodyQuestion S → SessionsState S → ℕ × List ℕ → List ℕ
asked_of asks state question = asked_text question.0 (without_feed (asks question.0 (state.0.served + 1) state.1 question.1))

abbrev pub session_asks : {S : Type 0} → BodyQuestion S → ℕ → SessionsState S → List ℕ → List ℕ
session_asks asks number state line = option_map_or (asked_of asks state) (question_in line) (malformed_text number)
