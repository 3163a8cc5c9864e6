-- What is promised of the answers to any input.
use Rattle.std.specs.Prelude.{◌≡◌, ℕ, Bool, true, false, List, [], ◌∷◌, ◌++◌, map, Option, None, Some, Contains, if◌then◌else◌}
use Rattle.std.specs.Option.{option_map}
use Rattle.session_gate.specs.declared.answer.Answer.{Answer}
use Rattle.session_gate.specs.declared.answer.Answer.TheVariants.{First, Repeat, Old, Ahead, Changed, Sessions}
use Rattle.session_gate.specs.Gate.{Message}
use Rattle.session_gate.specs.Laws.{bodies_of, numbers_of, AreFrom}
use Rattle.session_gate.specs.Runs.{Replies, Served, nothing_served}
use Rattle.live_lines.specs.Output.{output_of}
use Rattle.session_lines.specs.Answers.{Told, LineAnswer, told_of, after_said, answers_by, answers_text}
use Rattle.session_lines.specs.Lines.{NumberedLine, lines_in}
use Rattle.session_lines.specs.Messages.{message_in}
use Rattle.session_lines.specs.Served.{EndsLines, reply_by}
use Rattle.session_lines.specs.Sessions.{any_session, new_sessions, session_step}

abbrev pub is_first : Answer → Bool
is_first First = true
is_first Repeat = false
is_first (Old expected) = false
is_first (Ahead expected) = false
is_first (Changed expected) = false
is_first Sessions = false

abbrev pub first_in : Option Told → List Told
first_in None = []
first_in (Some told) = if is_first told.answer then told ∷ [] else []

-- what was told to the messages that were answered First, in order
abbrev pub told_first : List LineAnswer → List Told
told_first [] = []
told_first (answer ∷ more) = first_in answer.told ++ told_first more

abbrev pub accepted_messages : List LineAnswer → List Message
accepted_messages given = map (λ (told : Told). told.message) (told_first given)

abbrev pub accepted_bodies : List LineAnswer → List (List ℕ)
accepted_bodies given = bodies_of (accepted_messages given)

-- after the lines of an input
abbrev pub after_lines : Replies → Served → List NumberedLine → Served
after_lines reply served [] = served
after_lines reply served (line ∷ lines) = after_lines reply (after_said reply served (message_in line.text)) lines

-- ---- by the replies of any server
-- It took the bodies of the messages that were answered First, in order.
abbrev pub TakesAccepted : Replies → Type 0
TakesAccepted reply = (input : List ℕ) → (after_lines reply nothing_served (lines_in input)).bodies ≡ accepted_bodies (answers_by reply input)

-- Those of one session have the numbers 1, 2, 3 and so on, each once.
abbrev pub AcceptsInOrder : Replies → Type 0
AcceptsInOrder reply = (input : List ℕ) (session : ℕ) → AreFrom 1 (numbers_of session (accepted_messages (answers_by reply input)))

-- bodies as the lines of one input
abbrev pub as_input : List (List ℕ) → List ℕ
as_input [] = []
as_input (body ∷ bodies) = body ++ 10 ∷ as_input bodies

-- the replies that are told, each with a line feed
abbrev pub replies_text : List Told → List ℕ
replies_text [] = []
replies_text (told ∷ more) = told.reply ++ 10 ∷ replies_text more

-- a message that is answered Repeat was answered First before, with the same reply
abbrev pub AreRepeats : List LineAnswer → Type 0
AreRepeats given = (before later : List LineAnswer) (answer : LineAnswer) (told : Told)
    → given ≡ before ++ answer ∷ later → answer.told ≡ Some told → told.answer ≡ Repeat
    → Contains (told_first before) (told_of told.message First told.reply)

-- A Repeat tells the reply that was told to its First.
abbrev pub RepeatsTellTheSame : Replies → Type 0
RepeatsTellTheSame reply = (input : List ℕ) → AreRepeats (answers_by reply input)

-- ---- of the bytes that are written for an input
-- the number of a line and the message that it says, where it says one
abbrev pub line_message : NumberedLine → ℕ × Option Message
line_message line = (line.number, message_in line.text)

-- those that an answer is to
abbrev pub answered_message : LineAnswer → ℕ × Option Message
answered_message answer = (answer.line, option_map (λ (told : Told). told.message) answer.told)

-- They are the text of the answers to its lines, by which each message takes effect once, in its
-- session's order. The server replies so to the last of its bodies, and the bodies as the lines of
-- one input have such an output.
pub record TellOnce (reply : Replies) (output : List ℕ → List ℕ) (input bytes : List ℕ) : Type 0 where
  pub text : bytes ≡ answers_text (answers_by reply input)
  -- to each line of the input one, in order, to the message that the line says
  pub to_lines : map answered_message (answers_by reply input) ≡ map line_message (lines_in input)
  -- the messages answered First have, session by session, the numbers 1, 2, 3 and so on
  pub in_order : (session : ℕ) → AreFrom 1 (numbers_of session (accepted_messages (answers_by reply input)))
  -- the server took their bodies
  pub taken : (after_lines reply nothing_served (lines_in input)).bodies ≡ accepted_bodies (answers_by reply input)
  -- their replies are the output of these as one input
  pub replies : replies_text (told_first (answers_by reply input)) ≡ output (as_input (accepted_bodies (answers_by reply input)))
  pub repeats : AreRepeats (answers_by reply input)

-- ---- by any way of answering lines
-- What is written for an input is the text of the answers to it.
abbrev pub OutputsAreAnswers : {S : Type 0} → (ℕ → S → List ℕ → List ℕ × S) → Type 0
OutputsAreAnswers {S} step =
    (start : S) (input : List ℕ) → output_of (session_step (any_session step)) false (new_sessions start) input ≡ answers_text (answers_by (reply_by step start) input)

-- Where each answer to a body is the text of lines, what is written tells each message once; a mark
-- is skipped at the start of the bodies as one input, or is not, since no body begins with one.
abbrev pub OutputsTellOnce : {S : Type 0} → (ℕ → S → List ℕ → List ℕ × S) → Type 0
OutputsTellOnce {S} step =
    EndsLines step → (skips : Bool) (start : S) (input : List ℕ)
    → TellOnce (reply_by step start) (output_of step skips start) input (output_of (session_step (any_session step)) false (new_sessions start) input)
