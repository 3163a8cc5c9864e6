-- The answers to the lines of an input, by the replies of a server.
use Rattle.std.specs.Prelude.{ℕ, List, [], ◌∷◌, ◌++◌, Option, None, Some}
use Rattle.std.specs.Option.{option_map}
use Rattle.session_gate.specs.declared.answer.Answer.{Answer}
use Rattle.session_gate.specs.Answers.{answer_to}
use Rattle.session_gate.specs.Gate.{Message, LastAccepted, GateState, kept_of}
use Rattle.session_gate.specs.Runs.{Replies, Served, nothing_served, after}
use Rattle.session_lines.specs.Lines.{NumberedLine, lines_in}
use Rattle.session_lines.specs.Messages.{message_in}
use Rattle.session_lines.specs.Texts.{malformed_text, answer_text}

-- the answer to a message, and the reply that is kept of its session then
pub record Told : Type 0 where
  pub message : Message
  pub answer : Answer
  pub reply : List ℕ

-- the answer to a line; none where the line is no message
pub record LineAnswer : Type 0 where
  pub line : ℕ
  pub told : Option Told

-- the kept reply of a session, and nothing where it is not known
abbrev pub reply_of : Option LastAccepted → List ℕ
reply_of None = []
reply_of (Some kept) = kept.reply

abbrev pub kept_reply : GateState → ℕ → List ℕ
kept_reply gate session = reply_of (kept_of gate.sessions session)

abbrev pub told_of : Message → Answer → List ℕ → Told
told_of message answer reply = record { message = message; answer = answer; reply = reply }

-- what a message is answered
abbrev pub told_to : Replies → Served → Message → Told
told_to reply served message = told_of message (answer_to served.gate message) (kept_reply (after reply served message).gate message.session)

-- after what a line says
abbrev pub after_said : Replies → Served → Option Message → Served
after_said reply served None = served
after_said reply served (Some message) = after reply served message

abbrev pub answer_in : Replies → Served → NumberedLine → LineAnswer
answer_in reply served line = record { line = line.number; told = option_map (told_to reply served) (message_in line.text) }

-- the answers to lines, one after another
abbrev pub answers_from : Replies → Served → List NumberedLine → List LineAnswer
answers_from reply served [] = []
answers_from reply served (line ∷ lines) = answer_in reply served line ∷ answers_from reply (after_said reply served (message_in line.text)) lines

-- the line that tells an answer, with its line feed
abbrev pub told_text : ℕ → Option Told → List ℕ
told_text line None = malformed_text line
told_text line (Some told) = answer_text line told.message told.answer told.reply

abbrev pub line_text : LineAnswer → List ℕ
line_text answer = told_text answer.line answer.told

abbrev pub answers_text : List LineAnswer → List ℕ
answers_text [] = []
answers_text (answer ∷ more) = line_text answer ++ answers_text more

-- the answers to an input
abbrev pub answers_by : Replies → List ℕ → List LineAnswer
answers_by reply input = answers_from reply nothing_served (lines_in input)
