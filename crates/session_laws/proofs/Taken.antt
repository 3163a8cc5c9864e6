-- What is written for messages tells each once, whatever their answers look at.
use Rattle.std.proofs.Common.{◌≡◌, ◌==◌, ℕ, suc, ◌+◌, Bool, true, false, List, [], ◌∷◌, ◌++◌, length, length-append, drop, map, Option, None, Some, if◌then◌else◌, refl, sym, ap, ◌∙◌, subst, arith}
use Rattle.std.specs.Option.{option_map}
use Rattle.command_text.specs.Lines.{without_return}
use Rattle.command_text.proofs.LineParts.{cut}
use Rattle.live_lines.specs.Output.{lines_output}
use Rattle.live_lines.proofs.Places.{output_is}
use Rattle.session_gate.specs.declared.answer.Answer.{Answer}
use Rattle.session_gate.specs.declared.answer.Answer.TheVariants.{First, Repeat, Old, Ahead, Changed, Sessions}
use Rattle.session_gate.specs.Answers.{answer_to}
use Rattle.session_gate.specs.Gate.{GateState, Message, with_accepted}
use Rattle.session_gate.specs.Laws.{bodies_of}
use Rattle.session_gate.specs.Runs.{Served, after, after_answer, nothing_served}
use Rattle.session_lines.specs.Answers.{Told, after_said, answers_from, answers_text, kept_reply, told_text, told_to}
use Rattle.session_lines.specs.Laws.{accepted_messages, first_in, is_first}
use Rattle.session_lines.specs.Lines.{NumberedLine, line_of, lines_from, lines_in}
use Rattle.session_lines.specs.Messages.{message_in}
use Rattle.session_lines.specs.Served.{without_feed}
use Rattle.session_lines.specs.Sessions.{BodyStep, SessionsState, after_answered, after_as, after_message, new_sessions, said_step, session_step}
use Rattle.session_lines.specs.Texts.{answer_text}
use Rattle.session_lines.proofs.OneInput.{replies_of}
use Rattle.session_lines.proofs.ReplyLaws.{replies_to_bodies}
use Rattle.session_lines.proofs.TellLaws.{tells_once}
use Rattle.session_laws.specs.Laws.{MessagesTellOnce, answers_to, state_after}
use Rattle.session_laws.proofs.Texts.{answers_are, one_longer, reply_at, reply_is, texts_behind, texts_to}

-- ---- the messages that lines have answered First
abbrev in_front : Answer → Message → List Message → List Message
in_front given message messages = (if is_first given then message ∷ [] else []) ++ messages

module _ {S : Type 0} (step : BodyStep S) where
  -- in front of others what a line says, where it is one
  abbrev said_first : SessionsState S → Option Message → List Message → List Message
  said_first state None messages = messages
  said_first state (Some message) messages = in_front (answer_to state.0 message) message messages

  abbrev after_what : SessionsState S → Option Message → SessionsState S
  after_what state None = state
  after_what state (Some message) = after_message step state message

  abbrev firsts_from : SessionsState S → List NumberedLine → List Message
  firsts_from state [] = []
  firsts_from state (line ∷ lines) =
      let said = message_in line.text in said_first state said (firsts_from (after_what state said) lines)

-- what is told in front
front : (b : Bool) (told : Told) (more : List Told)
    → map (λ (t : Told). t.message) ((if b then told ∷ [] else []) ++ more) ≡ (if b then told.message ∷ [] else []) ++ map (λ (t : Told). t.message) more
front true told more = refl
front false told more = refl

-- ---- one message
module _ {S : Type 0} (step : BodyStep S) (all : List (List ℕ)) where
  -- the gate is that of a server that took these bodies, and the texts behind are those of these messages
  record AreAs (served : Served) (state : SessionsState S) (messages : List Message) : Type 0 where
    gate : state.0 ≡ served.gate
    count : served.gate.served ≡ length served.bodies
    texts : drop (length served.bodies) all ≡ texts_to step (length served.bodies + 1) state.1 messages

  module _ (served : Served) (state : SessionsState S) (message : Message) (later : SessionsState S → List Message) where
    -- behind the message, where it is answered so
    abbrev Behind : Answer → Type 0
    Behind given = AreAs (after_answer given (reply_at all) served message) (after_as step given state message) (later (after_as step given state message))

    abbrev Before : Answer → Type 0
    Before given = AreAs served state (in_front given message (later (after_as step given state message)))

    one_taken : Before First → Behind First
    one_taken are =
        let bodies = served.bodies in
        let number = length bodies + 1 in
        let turned : state.0.served + 1 ≡ number = omega (arith, ap (λ (g : GateState). g.served) are.gate, are.count) in
        let now = step message.session number state.1 message.body in
        let next = after_answered step state message in
        let same : step message.session (state.0.served + 1) state.1 message.body ≡ now = ap (λ n. step message.session n state.1 message.body) turned in
        let rest = texts_to step (number + 1) now.1 (later next) in
        let longer : length (bodies ++ message.body ∷ []) ≡ number = one_longer bodies message.body ∙ (let turn : suc (length bodies) ≡ number = omega arith in turn) in
        record {
          gate =
              (λ i. with_accepted (are.gate i) message (without_feed (same i).0))
              ∙ ap (with_accepted served.gate message) (sym (reply_is all bodies message.body (without_feed now.0) rest are.texts));
          count = omega (arith, are.count, length-append bodies (message.body ∷ []));
          texts =
              ap (λ n. drop n all) (one_longer bodies message.body) ∙ texts_behind (without_feed now.0) rest all (length bodies) are.texts
              ∙ (λ i. texts_to step (sym longer i + 1) (sym same i).1 (later next));
        }

    behind : (given : Answer) → Before given → Behind given
    behind First are = one_taken are
    behind Repeat are = record { gate = are.gate; count = are.count; texts = are.texts }
    behind (Old expected) are = record { gate = are.gate; count = are.count; texts = are.texts }
    behind (Ahead expected) are = record { gate = are.gate; count = are.count; texts = are.texts }
    behind (Changed expected) are = record { gate = are.gate; count = are.count; texts = are.texts }
    behind Sessions are = record { gate = are.gate; count = are.count; texts = are.texts }

    -- the state after all of them
    abbrev SameEnd : Answer → Type 0
    SameEnd given =
        state_after step (length served.bodies + 1) state.1 (in_front given message (later (after_as step given state message)))
        ≡ state_after step (length (after_answer given (reply_at all) served message).bodies + 1) (after_as step given state message).1 (later (after_as step given state message))

    same_end : (given : Answer) → Before given → SameEnd given
    same_end First are =
        let bodies = served.bodies in
        let number = length bodies + 1 in
        let turned : state.0.served + 1 ≡ number = omega (arith, ap (λ (g : GateState). g.served) are.gate, are.count) in
        let same : step message.session (state.0.served + 1) state.1 message.body ≡ step message.session number state.1 message.body = ap (λ n. step message.session n state.1 message.body) turned in
        let longer : length (bodies ++ message.body ∷ []) ≡ number = omega (arith, length-append bodies (message.body ∷ [])) in
        λ i. state_after step (sym longer i + 1) (sym same i).1 (later (after_answered step state message))
    same_end Repeat are = refl
    same_end (Old expected) are = refl
    same_end (Ahead expected) are = refl
    same_end (Changed expected) are = refl
    same_end Sessions are = refl

  -- ---- what a line says
  module _ (served : Served) (state : SessionsState S) (later : SessionsState S → List Message) where
    abbrev BeforeSaid : Option Message → Type 0
    BeforeSaid said = AreAs served state (said_first step state said (later (after_what step state said)))

    -- what is written for it, and what is behind it
    record OneSaid (line : ℕ) (said : Option Message) : Type 0 where
      text : (said_step step line state said).0 ≡ told_text line (option_map (told_to (reply_at all) served) said)
      after : (said_step step line state said).1 ≡ after_what step state said
      next : AreAs (after_said (reply_at all) served said) (after_what step state said) (later (after_what step state said))
      ended : state_after step (length served.bodies + 1) state.1 (said_first step state said (later (after_what step state said)))
          ≡ state_after step (length (after_said (reply_at all) served said).bodies + 1) (after_what step state said).1 (later (after_what step state said))

    one_said : (line : ℕ) (said : Option Message) → BeforeSaid said → OneSaid line said
    one_said line None are = record { text = refl; after = refl; next = are; ended = refl }
    one_said line (Some message) are =
        let given = answer_to served.gate message in
        let same : answer_to state.0 message ≡ given = ap (λ gate. answer_to gate message) are.gate in
        let own = answer_to state.0 message in
        let now = behind served state message later own are in
        let turn : AreAs (after_answer own (reply_at all) served message) (after_message step state message) (later (after_message step state message))
        → AreAs (after (reply_at all) served message) (after_message step state message) (later (after_message step state message)) =
        subst (λ a. AreAs (after_answer a (reply_at all) served message) (after_message step state message) (later (after_message step state message))) same in
        let next = turn now in
        record {
          text = λ i. answer_text line message (same i) (kept_reply (next.gate i) message.session);
          after = refl;
          next = next;
          ended =
              same_end served state message later own are
              ∙ ap (λ a. state_after step (length (after_answer a (reply_at all) served message).bodies + 1) (after_message step state message).1 (later (after_message step state message))) same;
        }

  -- the messages that are told First
  module _ (served : Served) (state : SessionsState S) where
    told_is : (said : Option Message) → state.0 ≡ served.gate → (more : List Told) (messages : List Message) → map (λ (told : Told). told.message) more ≡ messages
        → map (λ (told : Told). told.message) (first_in (option_map (told_to (reply_at all) served) said) ++ more) ≡ said_first step state said messages
    told_is None gate more messages is = is
    told_is (Some message) gate more messages is =
        let given = answer_to served.gate message in
        front (is_first given) (told_to (reply_at all) served message) more ∙ (λ i. in_front (answer_to (sym gate i) message) message (is i))

  -- ---- all lines
  record AllSaid (served : Served) (state : SessionsState S) (number : ℕ) (pieces : List (List ℕ)) : Type 0 where
    text : (lines_output (session_step step) false number state pieces).0 ≡ answers_text (answers_from (reply_at all) served (lines_from number pieces))
    taken : accepted_messages (answers_from (reply_at all) served (lines_from number pieces)) ≡ firsts_from step state (lines_from number pieces)
    end : (lines_output (session_step step) false number state pieces).1.1 ≡ state_after step (length served.bodies + 1) state.1 (firsts_from step state (lines_from number pieces))

  -- ---- behind a line, empty or answered
  module _ (number : ℕ) (piece : List ℕ) (pieces : List (List ℕ)) (served : Served) (state : SessionsState S) where
    abbrev piece_text : List ℕ
    piece_text = without_return piece

    abbrev lines : List NumberedLine
    lines = lines_from (number + 1) pieces

    -- the lines, where the first is empty or is not
    abbrev From : Bool → List NumberedLine
    From empty = (if empty then [] else line_of number piece_text ∷ []) ++ lines

    abbrev Now : Bool → List ℕ × SessionsState S
    Now empty = if empty then ([], state) else session_step step number state piece_text

    record LineSaid (empty : Bool) : Type 0 where
      text : (Now empty).0 ++ (lines_output (session_step step) false (number + 1) (Now empty).1 pieces).0 ≡ answers_text (answers_from (reply_at all) served (From empty))
      taken : accepted_messages (answers_from (reply_at all) served (From empty)) ≡ firsts_from step state (From empty)
      end : (lines_output (session_step step) false (number + 1) (Now empty).1 pieces).1.1 ≡ state_after step (length served.bodies + 1) state.1 (firsts_from step state (From empty))

    abbrev Later : Type 0
    Later = (next : Served) (after : SessionsState S) → AreAs next after (firsts_from step after lines) → AllSaid next after (number + 1) pieces

    line_said : Later → (empty : Bool) → AreAs served state (firsts_from step state (From empty)) → LineSaid empty
    line_said later true are = let rest = later served state are in record { text = rest.text; taken = rest.taken; end = rest.end }
    line_said later false are =
        let said = message_in piece_text in
        let one = one_said served state (λ after. firsts_from step after lines) number said are in
        let rest = later (after_said (reply_at all) served said) (after_what step state said) one.next in
        record {
          text = (λ i. one.text i ++ (lines_output (session_step step) false (number + 1) (one.after i) pieces).0) ∙ ap (λ t. told_text number (option_map (told_to (reply_at all) served) said) ++ t) rest.text;
          taken = told_is served state said are.gate _ _ rest.taken;
          end = ap (λ (s : SessionsState S). (lines_output (session_step step) false (number + 1) s pieces).1.1) one.after ∙ rest.end ∙ sym one.ended;
        }

    one_line : Later → AreAs served state (firsts_from step state (lines_from number (piece ∷ pieces))) → AllSaid served state number (piece ∷ pieces)
    one_line later are = let one = line_said later (length piece_text == 0) are in record { text = one.text; taken = one.taken; end = one.end }

  all_lines : (number : ℕ) (pieces : List (List ℕ)) (served : Served) (state : SessionsState S) → AreAs served state (firsts_from step state (lines_from number pieces))
      → AllSaid served state number pieces
  all_lines number [] served state are = record { text = refl; taken = refl; end = refl }
  all_lines number (piece ∷ pieces) served state are = one_line number piece pieces served state (λ next after. all_lines (number + 1) pieces next after) are

module _ {S : Type 0} (step : BodyStep S) where
  pub messages_tell_once : MessagesTellOnce step
  messages_tell_once ends start input =
      let firsts = firsts_from step (new_sessions start) (lines_in input) in
      let all = texts_to step 1 start firsts in
      let reply = reply_at all in
      let none : AreAs step all nothing_served (new_sessions start) firsts = record { gate = refl; count = refl; texts = refl } in
      let said = all_lines step all 1 (cut input) nothing_served (new_sessions start) none in
      let replies = answers_are step ends all firsts [] start refl in
      record {
        reply = reply;
        once =
            tells_once reply _ input _ (output_is (session_step step) false (new_sessions start) input ∙ said.text)
            (replies_to_bodies reply input ∙ ap (λ messages. replies_of reply [] (bodies_of messages)) said.taken ∙ replies ∙ ap (answers_to step 1 start) (sym said.taken));
        state = said.end ∙ ap (state_after step 1 start) (sym said.taken);
      }
