-- Messages that any way of answering bodies answers, between which sessions may ask.
use Rattle.std.specs.Prelude.{ℕ, List, false}
use Rattle.asked_lines.specs.Apart.{TellBeside}
use Rattle.asked_lines.specs.Asked.{asked_step, asking_first}
use Rattle.live_lines.specs.Output.{output_of}
use Rattle.session_lines.specs.Questions.{BodyQuestion, session_asks}
use Rattle.session_lines.specs.Sessions.{BodyStep, new_sessions, session_step}

module _ {S : Type 0} (step : BodyStep S) (asks : BodyQuestion S) (start : S) where
  -- what is written for the lines of an input, of which no bytes are skipped
  abbrev pub messages_output : List ℕ → List ℕ
  messages_output input = output_of (asked_step (session_asks asks) (session_step step)) false (asking_first (new_sessions start)) input

  -- of the bytes that are written, those for messages keep what is promised of them
  abbrev pub MessagesTell : (List ℕ → List ℕ → Type 0) → List ℕ → List ℕ → Type 0
  MessagesTell = TellBeside (session_asks asks) (session_step step) false (new_sessions start)
