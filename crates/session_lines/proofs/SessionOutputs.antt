-- What is written for messages, line by line, is the text of the answers to them.
use Rattle.std.proofs.Common.{◌≡◌, ◌==◌, ℕ, ◌+◌, Bool, true, false, List, [], ◌∷◌, ◌++◌, length, length-append, Option, None, Some, if◌then◌else◌, refl, sym, ap, ap₂, ◌∙◌, subst, arith}
use Rattle.command_text.specs.Lines.{without_return}
use Rattle.command_text.proofs.LineParts.{cut}
use Rattle.live_lines.specs.Output.{lines_output, output_of}
use Rattle.live_lines.proofs.Places.{output_is}
use Rattle.session_gate.specs.declared.answer.Answer.{Answer}
use Rattle.session_gate.specs.declared.answer.Answer.TheVariants.{First, Repeat, Old, Ahead, Changed, Sessions}
use Rattle.session_gate.specs.Answers.{answer_to}
use Rattle.session_gate.specs.Gate.{GateState, Message, with_accepted}
use Rattle.session_gate.specs.Runs.{Replies, Served, after_answer, nothing_served}
use Rattle.std.specs.Option.{option_map}
use Rattle.session_lines.specs.Answers.{after_said, answers_by, answers_from, answers_text, kept_reply, told_text, told_to}
use Rattle.session_lines.specs.Laws.{OutputsAreAnswers, OutputsTellOnce, accepted_bodies}
use Rattle.session_lines.specs.Lines.{line_of, lines_from}
use Rattle.session_lines.specs.Messages.{message_in}
use Rattle.session_lines.specs.Served.{reply_by, state_after, without_feed}
use Rattle.session_lines.specs.Sessions.{SessionsState, after_as, after_message, any_session, new_sessions, said_step, session_step}
use Rattle.session_lines.specs.Texts.{answer_text}
use Rattle.session_lines.proofs.OneInput.{output_is_replies}
use Rattle.session_lines.proofs.ReplyLaws.{bodies_are, replies_to_bodies}
use Rattle.session_lines.proofs.Served.{last_reply-push, state_after-push}
use Rattle.session_lines.proofs.TellLaws.{tells_once}

module _ {S : Type 0} (step : ℕ → S → List ℕ → List ℕ × S) (start : S) where
  abbrev reply : Replies
  reply = reply_by step start

  -- the bodies that were served left this state
  record AreAs (served : Served) (state : SessionsState S) : Type 0 where
    gate : state.0 ≡ served.gate
    after : state.1 ≡ state_after step 1 start served.bodies
    count : served.gate.served ≡ length served.bodies

  none_yet : AreAs nothing_served (new_sessions start)
  none_yet = record { gate = refl; after = refl; count = refl }

  module _ (served : Served) (state : SessionsState S) (are : AreAs served state) where
    module _ (message : Message) where
      one_served : AreAs (after_answer First reply served message) (after_as (any_session step) First state message)
      one_served =
          let bodies = served.bodies in
          let number : state.0.served + 1 ≡ 1 + length bodies = omega (arith, ap (λ (g : GateState). g.served) are.gate, are.count) in
          let now : step (state.0.served + 1) state.1 message.body ≡ step (1 + length bodies) (state_after step 1 start bodies) message.body = λ i. step (number i) (are.after i) message.body in
          record {
            gate = (λ i. with_accepted (are.gate i) message (without_feed (now i).0)) ∙ ap (with_accepted served.gate message) (sym (last_reply-push step 1 start bodies message.body));
            after = ap (λ (r : List ℕ × S). r.1) now ∙ sym (state_after-push step 1 start bodies message.body);
            count = omega (arith, are.count, length-append bodies (message.body ∷ []));
          }

      as_answered : (given : Answer) → AreAs (after_answer given reply served message) (after_as (any_session step) given state message)
      as_answered First = one_served
      as_answered Repeat = are
      as_answered (Old expected) = are
      as_answered (Ahead expected) = are
      as_answered (Changed expected) = are
      as_answered Sessions = are

      same_answer : answer_to state.0 message ≡ answer_to served.gate message
      same_answer = ap (λ gate. answer_to gate message) are.gate

      next : AreAs (after_answer (answer_to served.gate message) reply served message) (after_message (any_session step) state message)
      next = subst (λ given. AreAs (after_answer (answer_to served.gate message) reply served message) (after_as (any_session step) given state message)) (sym same_answer) (as_answered (answer_to served.gate message))

    one_line : (line : ℕ) (said : Option Message)
        → ((said_step (any_session step) line state said).0 ≡ told_text line (option_map (told_to reply served) said)) × AreAs (after_said reply served said) (said_step (any_session step) line state said).1
    one_line line None = (refl, are)
    one_line line (Some message) = ((λ i. answer_text line message (same_answer message i) (kept_reply ((next message).gate i) message.session)), next message)

  by_lines : (number : ℕ) (pieces : List (List ℕ)) (served : Served) (state : SessionsState S) → AreAs served state
      → (lines_output (session_step (any_session step)) false number state pieces).0 ≡ answers_text (answers_from reply served (lines_from number pieces))
  by_lines number [] served state are = refl
  by_lines number (piece ∷ pieces) served state are =
      let text = without_return piece in
      let one = one_line served state are number (message_in text) in
      let Written : Bool → List ℕ = λ empty. let now : List ℕ × SessionsState S = if empty then ([], state) else session_step (any_session step) number state text in now.0 ++ (lines_output (session_step (any_session step)) false (number + 1) now.1 pieces).0 in
      elim (length text == 0) as (λ empty. Written empty ≡ answers_text (answers_from reply served ((if empty then [] else line_of number text ∷ []) ++ lines_from (number + 1) pieces))) [
        | true ↦ by_lines (number + 1) pieces served state are
        | false ↦ ap₂ (λ (a b : List ℕ). a ++ b) one.0 (by_lines (number + 1) pieces (after_said reply served (message_in text)) (said_step (any_session step) number state (message_in text)).1 one.1)
      ]

  output_is_answers : (input : List ℕ) → output_of (session_step (any_session step)) false (new_sessions start) input ≡ answers_text (answers_by reply input)
  output_is_answers input = output_is (session_step (any_session step)) false (new_sessions start) input ∙ by_lines 1 (cut input) nothing_served (new_sessions start) none_yet

module _ {S : Type 0} (step : ℕ → S → List ℕ → List ℕ × S) where
  pub outputs_are_answers : OutputsAreAnswers step
  outputs_are_answers start input = output_is_answers step start input

  pub outputs_tell_once : OutputsTellOnce step
  outputs_tell_once ends skips start input =
      let reply = reply_by step start in
      let replies = output_is_replies step skips start ends (accepted_bodies (answers_by reply input)) (bodies_are reply input) in
      tells_once reply (output_of step skips start) input _ (output_is_answers step start input) (replies_to_bodies reply input ∙ replies)
