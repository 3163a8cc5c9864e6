-- The messages answered First, and the bodies that the server took.
use Rattle.std.proofs.Common.{◌≡◌, ℕ, List, [], ◌∷◌, ◌++◌, map, Option, None, Some, if◌then◌else◌, refl, sym, ap, subst, ◌∙◌}
use Rattle.session_gate.specs.declared.answer.Answer.{Answer}
use Rattle.session_gate.specs.declared.answer.Answer.TheVariants.{First, Repeat, Old, Ahead, Changed, Sessions}
use Rattle.session_gate.specs.Answers.{answer_to}
use Rattle.session_gate.specs.Gate.{Message}
use Rattle.session_gate.specs.Laws.{bodies_of, numbers_of, AreFrom}
use Rattle.session_gate.specs.Runs.{Replies, Served, nothing_served, after, run, if_first, firsts}
use Rattle.session_gate.proofs.RunLaws.{serves_firsts, numbers_in_order}
use Rattle.session_lines.specs.Answers.{Told, told_of, told_to, after_said, answers_from}
use Rattle.session_lines.specs.Laws.{is_first, first_in, told_first, accepted_messages, after_lines, TakesAccepted, AcceptsInOrder}
use Rattle.session_lines.specs.Lines.{NumberedLine, lines_in}
use Rattle.session_lines.specs.Messages.{message_in}

abbrev said_in : Option Message → List Message → List Message
said_in None messages = messages
said_in (Some message) messages = message ∷ messages

-- the messages that lines say
abbrev messages_in : List NumberedLine → List Message
messages_in [] = []
messages_in (line ∷ lines) = said_in (message_in line.text) (messages_in lines)

-- lines do what their messages do
lines_run : (reply : Replies) (served : Served) (lines : List NumberedLine) → after_lines reply served lines ≡ run reply served (messages_in lines)
lines_run reply served [] = refl
lines_run reply served (line ∷ lines) = by (message_in line.text) (λ next. lines_run reply next lines)
  where
    by : (said : Option Message) → ((next : Served) → after_lines reply next lines ≡ run reply next (messages_in lines))
        → after_lines reply (after_said reply served said) lines ≡ run reply served (said_in said (messages_in lines))
    by None each = each served
    by (Some message) each = each (after reply served message)

-- what is told to what a line says
abbrev pub told_said : Replies → Served → Option Message → Option Told
told_said reply served None = None
told_said reply served (Some message) = Some (told_to reply served message)

-- what is told to messages in front
told_in_front : (given : Answer) (message : Message) (reply : List ℕ) (more : List Told)
    → map (λ (told : Told). told.message) ((if is_first given then told_of message given reply ∷ [] else []) ++ more) ≡ if_first given message (map (λ (told : Told). told.message) more)
told_in_front First message reply more = refl
told_in_front Repeat message reply more = refl
told_in_front (Old expected) message reply more = refl
told_in_front (Ahead expected) message reply more = refl
told_in_front (Changed expected) message reply more = refl
told_in_front Sessions message reply more = refl

lines_accept : (reply : Replies) (served : Served) (lines : List NumberedLine) → accepted_messages (answers_from reply served lines) ≡ firsts reply served (messages_in lines)
lines_accept reply served [] = refl
lines_accept reply served (line ∷ lines) = by (message_in line.text) (λ next. lines_accept reply next lines)
  where
    by : (said : Option Message) → ((next : Served) → accepted_messages (answers_from reply next lines) ≡ firsts reply next (messages_in lines))
        → map (λ (told : Told). told.message) (first_in (told_said reply served said) ++ told_first (answers_from reply (after_said reply served said) lines)) ≡ firsts reply served (said_in said (messages_in lines))
    by None each = each served
    by (Some message) each =
        told_in_front (answer_to served.gate message) message (told_to reply served message).reply (told_first (answers_from reply (after reply served message) lines))
        ∙ ap (if_first (answer_to served.gate message) message) (each (after reply served message))

module _ (reply : Replies) where
  pub takes_accepted : TakesAccepted reply
  takes_accepted input =
      let lines = lines_in input in
      ap (λ (s : Served). s.bodies) (lines_run reply nothing_served lines) ∙ serves_firsts reply (messages_in lines)
      ∙ ap bodies_of (sym (lines_accept reply nothing_served lines))

  pub accepts_in_order : AcceptsInOrder reply
  accepts_in_order input session =
      let lines = lines_in input in
      subst (λ messages. AreFrom 1 (numbers_of session messages)) (sym (lines_accept reply nothing_served lines)) (numbers_in_order reply (messages_in lines) session)
