-- The text of the answers to an input tells each message once.
use Rattle.std.proofs.Common.{◌≡◌, ℕ, List, [], ◌∷◌, map, Option, None, Some, refl}
use Rattle.std.specs.Option.{option_map}
use Rattle.session_gate.specs.Gate.{Message}
use Rattle.session_gate.specs.Runs.{Replies, Served, nothing_served}
use Rattle.session_lines.specs.Answers.{Told, after_said, answers_by, answers_from, answers_text, told_to}
use Rattle.session_lines.specs.Laws.{TellOnce, accepted_bodies, answered_message, as_input, line_message, replies_text, told_first}
use Rattle.session_lines.specs.Lines.{NumberedLine, lines_in}
use Rattle.session_lines.specs.Messages.{message_in}
use Rattle.session_lines.proofs.AcceptedLaws.{accepts_in_order, takes_accepted}
use Rattle.session_lines.proofs.RepeatLaws.{repeats_tell_the_same}

-- what is told to what a line says is told to its message
told_message : (reply : Replies) (served : Served) (said : Option Message) → option_map (λ (told : Told). told.message) (option_map (told_to reply served) said) ≡ said
told_message reply served None = refl
told_message reply served (Some message) = refl

lines_answered : (reply : Replies) (served : Served) (lines : List NumberedLine) → map answered_message (answers_from reply served lines) ≡ map line_message lines
lines_answered reply served [] = refl
lines_answered reply served (line ∷ lines) =
    let said = message_in line.text in
    λ i. (line.number, told_message reply served said i) ∷ lines_answered reply (after_said reply served said) lines i

pub tells_once : (reply : Replies) (output : List ℕ → List ℕ) (input bytes : List ℕ) → bytes ≡ answers_text (answers_by reply input)
    → replies_text (told_first (answers_by reply input)) ≡ output (as_input (accepted_bodies (answers_by reply input)))
    → TellOnce reply output input bytes
tells_once reply output input bytes text replies = record {
  text = text;
  to_lines = lines_answered reply nothing_served (lines_in input);
  in_order = accepts_in_order reply input;
  taken = takes_accepted reply input;
  replies = replies;
  repeats = repeats_tell_the_same reply input;
}
