-- What is promised of the answers of an exchange to any input.
use Rattle.std.specs.Prelude.{ℕ, List}
use Rattle.exchange_lines.specs.Output.{line_output, output}
use Rattle.exchange_lines.specs.Promises.{IsNoText, TellAnswers}
use Rattle.session_gate.specs.Runs.{Replies}
use Rattle.session_lines.specs.Answers.{answers_by}
use Rattle.session_lines.specs.Laws as lines
use Rattle.session_lines.specs.Laws.{accepted_bodies, as_input, replies_text, told_first}
use Rattle.exchange_sessions.specs.Answers.{sessions_output}
use Rattle.exchange_sessions.specs.Served.{exchange_reply}

-- ---- by any server
-- Bytes are the text of the answers to the lines of an input, by which each message takes effect
-- once, in its session's order. The bodies as the lines of one input have this output, and what is
-- told of it holds of the replies.
pub record SessionsTold (reply : Replies) (output_by : List ℕ → List ℕ) (Tell : List ℕ → List ℕ → Type 0) (input bytes : List ℕ) : Type 0 where
  pub once : lines.TellOnce reply output_by input bytes
  pub promises : Tell (as_input (accepted_bodies (answers_by reply input))) (replies_text (told_first (answers_by reply input)))

-- ---- by a run's
-- they tell each message once, and the bodies are answered as a run's lines
abbrev pub TellOnce : List ℕ → List ℕ → Type 0
TellOnce input bytes = SessionsTold exchange_reply output (TellAnswers IsNoText line_output) input bytes

-- What is written for an input tells each message once.
abbrev pub OutputTellsOnce : Type 0
OutputTellsOnce = (input : List ℕ) → TellOnce input (sessions_output input)
