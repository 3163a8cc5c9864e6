-- The replies that are told to the messages answered First.
use Rattle.std.proofs.Common.{◌≡◌, ℕ, Bool, true, false, cond, List, [], ◌∷◌, ◌++◌, map, All, Option, None, Some, if◌then◌else◌, refl, ap, ap₂, subst, ◌∙◌}
use Rattle.std.proofs.lemmas.Bool.{eq-eqb}
use Rattle.std.proofs.lemmas.List.Elements.{All-nil, All-cons}
use Rattle.std.proofs.lemmas.Option.{option_and_then_some}
use Rattle.std.specs.Option.{option_and_then}
use Rattle.session_gate.specs.declared.answer.Answer.{Answer}
use Rattle.session_gate.specs.declared.answer.Answer.TheVariants.{First, Repeat, Old, Ahead, Changed, Sessions}
use Rattle.limits.specs.declared.TheConstants.{MAX_SESSION, MAX_MESSAGE}
use Rattle.session_gate.specs.Answers.{answer_to}
use Rattle.session_gate.specs.Bodies.{is_body}
use Rattle.session_gate.specs.Gate.{Message, message_of, accepted_as, kept_of}
use Rattle.session_gate.specs.Laws.{bodies_of}
use Rattle.session_gate.specs.Runs.{Replies, Served, nothing_served, after_served, after_answer}
use Rattle.session_gate.proofs.KnownBefore.{kept_of-keep}
use Rattle.session_lines.specs.Answers.{Told, LineAnswer, reply_of, kept_reply, told_of, after_said, answers_by, answers_from}
use Rattle.session_lines.specs.Laws.{is_first, first_in, told_first, accepted_bodies, replies_text}
use Rattle.session_lines.specs.Lines.{NumberedLine, lines_in}
use Rattle.session_lines.specs.Messages.{at_comma, number_to, message_with, message_in}
use Rattle.session_lines.proofs.AcceptedLaws.{told_said}
use Rattle.session_lines.proofs.OneInput.{IsBody, replies_of}

-- what is kept of a session whose message is taken
pub kept_first : (reply : Replies) (served : Served) (message : Message) → kept_reply (after_served reply served message).gate message.session ≡ reply (served.bodies ++ message.body ∷ [])
kept_first reply served message =
    let kept = accepted_as message (reply (served.bodies ++ message.body ∷ [])) in
    ap reply_of (kept_of-keep message.session kept served.gate.sessions message.session)
    ∙ ap (λ b. reply_of (cond b (Some kept) (kept_of served.gate.sessions message.session))) (eq-eqb message.session message.session refl)

-- what is told to a message, by its answer
abbrev pub told_as : Replies → Served → Message → Answer → Told
told_as reply served message given = told_of message given (kept_reply (after_answer given reply served message).gate message.session)

module _ (reply : Replies) where
  abbrev AreReplies : List LineAnswer → Served → Type 0
  AreReplies given served = replies_text (told_first given) ≡ replies_of reply served.bodies (accepted_bodies given)

  replies_told : (served : Served) (lines : List NumberedLine) → AreReplies (answers_from reply served lines) served
  replies_told served [] = refl
  replies_told served (line ∷ lines) = said (message_in line.text) (λ next. replies_told next lines)
    where
      by : (message : Message) (given : Answer) → ((next : Served) → AreReplies (answers_from reply next lines) next)
          → replies_text ((if is_first given then told_as reply served message given ∷ [] else []) ++ told_first (answers_from reply (after_answer given reply served message) lines))
          ≡ replies_of reply served.bodies (bodies_of (map (λ (told : Told). told.message)
          ((if is_first given then told_as reply served message given ∷ [] else []) ++ told_first (answers_from reply (after_answer given reply served message) lines))))
      by message First each = ap₂ (λ (r rest : List ℕ). r ++ 10 ∷ rest) (kept_first reply served message) (each (after_served reply served message))
      by message Repeat each = each served
      by message (Old expected) each = each served
      by message (Ahead expected) each = each served
      by message (Changed expected) each = each served
      by message Sessions each = each served

      said : (what : Option Message) → ((next : Served) → AreReplies (answers_from reply next lines) next)
          → replies_text (first_in (told_said reply served what) ++ told_first (answers_from reply (after_said reply served what) lines))
          ≡ replies_of reply served.bodies (bodies_of (map (λ (told : Told). told.message) (first_in (told_said reply served what) ++ told_first (answers_from reply (after_said reply served what) lines))))
      said None each = each served
      said (Some message) each = by message (answer_to served.gate message) each

-- ---- the bodies of messages are such as a message may have

with_body : (session number : Option ℕ) (body : List ℕ) (message : Message) → message_with session number body ≡ Some message → IsBody message.body
with_body None number body message e = absurd (cc)
with_body (Some session) None body message e = absurd (cc)
with_body (Some session) (Some number) body message e = by (is_body body) refl e
  where
    by : (b : Bool) → is_body body ≡ b → (if b then Some (message_of session number body) else None) ≡ Some message → IsBody message.body
    by true is e = let same : message_of session number body ≡ message = cc in subst (λ (m : Message). IsBody m.body) same is
    by false is e = absurd (cc)

said_body : (text : List ℕ) (message : Message) → message_in text ≡ Some message → IsBody message.body
said_body text message e =
    option_and_then_some
    (λ (first : List ℕ × List ℕ). option_and_then (λ (second : List ℕ × List ℕ). message_with (number_to MAX_SESSION first.0) (number_to MAX_MESSAGE second.0) second.1) (at_comma first.1))
    (at_comma text) message e
    (λ first is e2. option_and_then_some (λ (second : List ℕ × List ℕ). message_with (number_to MAX_SESSION first.0) (number_to MAX_MESSAGE second.0) second.1) (at_comma first.1) message e2
    (λ second is2 e3. with_body (number_to MAX_SESSION first.0) (number_to MAX_MESSAGE second.0) second.1 message e3))

module _ (reply : Replies) where
  bodies_told : (served : Served) (lines : List NumberedLine) → All IsBody (accepted_bodies (answers_from reply served lines))
  bodies_told served [] = All-nil IsBody
  bodies_told served (line ∷ lines) = said (message_in line.text) refl (λ next. bodies_told next lines)
    where
      by : (message : Message) (given : Answer) → IsBody message.body → ((next : Served) → All IsBody (accepted_bodies (answers_from reply next lines)))
          → All IsBody (bodies_of (map (λ (told : Told). told.message)
          ((if is_first given then told_as reply served message given ∷ [] else []) ++ told_first (answers_from reply (after_answer given reply served message) lines))))
      by message First is each = All-cons IsBody message.body (accepted_bodies (answers_from reply (after_served reply served message) lines)) is (each (after_served reply served message))
      by message Repeat is each = each served
      by message (Old expected) is each = each served
      by message (Ahead expected) is each = each served
      by message (Changed expected) is each = each served
      by message Sessions is each = each served

      said : (what : Option Message) → message_in line.text ≡ what → ((next : Served) → All IsBody (accepted_bodies (answers_from reply next lines)))
          → All IsBody (bodies_of (map (λ (told : Told). told.message) (first_in (told_said reply served what) ++ told_first (answers_from reply (after_said reply served what) lines))))
      said None is each = each served
      said (Some message) is each = by message (answer_to served.gate message) (said_body line.text message is) each

-- the replies that are told are those to the bodies
pub replies_to_bodies : (reply : Replies) (input : List ℕ) → replies_text (told_first (answers_by reply input)) ≡ replies_of reply [] (accepted_bodies (answers_by reply input))
replies_to_bodies reply input = replies_told reply nothing_served (lines_in input)

pub bodies_are : (reply : Replies) (input : List ℕ) → All IsBody (accepted_bodies (answers_by reply input))
bodies_are reply input = bodies_told reply nothing_served (lines_in input)
