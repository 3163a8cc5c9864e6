-- Each line that is written for a message is sound, and what is left stands before the next one.
use Rattle.std.proofs.Common.{◌≡◌, ℕ, ◌+◌, ◌<◌, List, [], ◌∷◌, ◌++◌, Bool, true, false, ◌&&◌, not, cond, nat_eq, ◌==◌, pos, Option, Some, None, option_and_then, inr, codes, decimal, if◌then◌else◌, refl, sym, ap, ◌∙◌, subst, append_assoc, length, length-append, ◌-◌, arith}
use Rattle.std.specs.Prelude.{IfSome}
use Rattle.std.specs.List.{list_all}
use Rattle.std.proofs.lemmas.Bool.{and_parts, eq-eqb}
use Rattle.std.proofs.lemmas.Bool.Decides.{nat_tests}
use Rattle.std.proofs.lemmas.List.{take_at}
use Rattle.std.proofs.lemmas.List.Elements.{All-nil}
use Rattle.command_text.specs.declared.numbers.NumberRead.{NumberRead}
use Rattle.command_text.specs.declared.numbers.NumberRead.TheVariants.{NotNumber, Outside, Value}
use Rattle.command_text.specs.Numbers.{number_in}
use Rattle.command_text.specs.Numbers as numbers
use Rattle.command_text.proofs.Bounds.{natural_between, number_within}
use Rattle.form.specs.Between.{Between}
use Rattle.session_gate.specs.declared.answer.Answer.{Answer}
use Rattle.session_gate.specs.declared.answer.Answer.TheVariants.{First, Repeat, Old, Ahead, Changed, Sessions}
use Rattle.limits.specs.declared.TheConstants.{MAX_MESSAGE, MAX_SESSION}
use Rattle.session_gate.specs.Answers.{answer_by, answer_to, has_kept_body, is_ahead, is_last, is_old, is_one_too_many}
use Rattle.session_gate.specs.Bodies.{is_body}
use Rattle.session_gate.specs.Gate.{KnownSessions, LastAccepted, Message, accepted_as, kept_of, message_of, next_number, keep}
use Rattle.session_gate.specs.Heads.{accepted_head}
use Rattle.session_gate.proofs.AnswerLaws.{repeats_are_kept}
use Rattle.session_gate.proofs.KnownBefore.{kept_of-keep}
use Rattle.session_lines.specs.Answers.{kept_reply, reply_of}
use Rattle.session_lines.specs.Messages.{at_comma, message_in, message_with, number_to, value_read}
use Rattle.session_lines.specs.Served.{without_feed}
use Rattle.session_lines.specs.Sessions.{BodyStep, SessionsState, after_answered, after_as, new_sessions, said_step, session_step}
use Rattle.session_lines.specs.Texts.{accepted_text, answer_text, expecting_text, malformed_text, sessions_text}
use Rattle.proposal_text.specs.declared.replies.ServedReply.{ServedReply}
use Rattle.journal_audit.specs.declared.gate_lines.GateLine.{GateLine}
use Rattle.journal_audit.specs.declared.gate_lines.GateLine.TheVariants as gate
use Rattle.journal_audit.specs.declared.gate_lines.Why.{Why}
use Rattle.journal_audit.specs.declared.gate_lines.Why.TheVariants as why
use Rattle.journal_audit.specs.Accepted.{accepted_line, tail_text, question_line, question_tail}
use Rattle.journal_audit.specs.GateLines.{IsExpected, IsGateWithin, IsSessionNumber, gate_line, gate_piece, why_number, why_word}
use Rattle.journal_audit.specs.Laws.{IsServedLineOf, OfGate, OfServe, OfQuestion}
use Rattle.journal_audit.proofs.GateTaken.{gate_written}
use Rattle.reply_print.specs.Within.{IsLine}
use Rattle.reply_ranges.proofs.Reports.{HasNoFeed, IsAnswered, IsOneLine}
use Rattle.reply_ranges.proofs.Texts.{IsServedText, both_have_none, plain_has_none, with_byte}
use Rattle.reply_print.proofs.Ascii.{piece_has_no_feed}
use Rattle.reply_print.proofs.Digits.{plain-decimal}
use Rattle.std.specs.Option.{option_map_or}
use Rattle.session_lines.specs.Questions.{BodyQuestion, asked_of, asked_text, question_in, question_with, session_asks}

-- ---- what a line says as a message
abbrev IsMessage : Message → Type 0
IsMessage message = IsSessionNumber message.session × Between 1 MAX_MESSAGE message.number

value_within : (limit : ℕ) (read : NumberRead) → numbers.IsWithin (pos 1) (pos limit) read → IfSome (value_read read) (Between 1 limit)
value_within limit (Value v) h = natural_between 1 limit v h
value_within limit NotNumber h = tt
value_within limit Outside h = tt

pub number_to_within : (limit : ℕ) (field : List ℕ) → IfSome (number_to limit field) (Between 1 limit)
number_to_within limit field = value_within limit (number_in (pos 1) (pos limit) field) (number_within (pos 1) (pos limit) field)

with_within : (session number : Option ℕ) (body : List ℕ) → IfSome session IsSessionNumber → IfSome number (Between 1 MAX_MESSAGE) → IfSome (message_with session number body) IsMessage
with_within None number body s n = tt
with_within (Some session) None body s n = tt
with_within (Some session) (Some number) body s n =
    elim (is_body body) as (λ b. IfSome (if b then Some (message_of session number body) else None) IsMessage) [ true ↦ (s, n) | false ↦ tt ]

second_within : (session : Option ℕ) (parts : Option (List ℕ × List ℕ)) → IfSome session IsSessionNumber
    → IfSome (option_and_then (λ second. message_with session (number_to MAX_MESSAGE second.0) second.1) parts) IsMessage
second_within session None s = tt
second_within session (Some second) s = with_within session (number_to MAX_MESSAGE second.0) second.1 s (number_to_within MAX_MESSAGE second.0)

first_within : (parts : Option (List ℕ × List ℕ))
    → IfSome (option_and_then (λ first. option_and_then (λ second. message_with (number_to MAX_SESSION first.0) (number_to MAX_MESSAGE second.0) second.1) (at_comma first.1)) parts) IsMessage
first_within None = tt
first_within (Some first) = second_within (number_to MAX_SESSION first.0) (at_comma first.1) (number_to_within MAX_SESSION first.0)

message_within : (line : List ℕ) → IfSome (message_in line) IsMessage
message_within line = first_within (at_comma line)

-- ---- what a gate expects
abbrev IsExpectedIn : Answer → Type 0
IsExpectedIn First = Unit {0}
IsExpectedIn Repeat = Unit {0}
IsExpectedIn (Old expected) = IsExpected expected
IsExpectedIn (Ahead expected) = IsExpected expected
IsExpectedIn (Changed expected) = IsExpected expected
IsExpectedIn Sessions = Unit {0}

expected_if : (test : Bool) (answer later : Answer) → IsExpectedIn answer → IsExpectedIn later → IsExpectedIn (if test then answer else later)
expected_if true answer later h k = h
expected_if false answer later h k = k

-- what is kept of a session is a sound line of `serve`
pub record IsKeptServed (kept : LastAccepted) : Type 0 where
  number : Between 1 MAX_MESSAGE kept.number
  reply : ServedReply
  served : IsServedLineOf kept.reply reply
  one : HasNoFeed kept.reply

next_expected : (kept : Option LastAccepted) → IfSome kept IsKeptServed → IsExpected (next_number kept)
next_expected None h = (omega arith, omega arith)
next_expected (Some kept) h = let most = h.number.1 in (omega arith, omega (arith, most))

answer_expected : (kept : Option LastAccepted) (sessions : KnownSessions) (message : Message) → IfSome kept IsKeptServed → IsExpectedIn (answer_by kept sessions message)
answer_expected kept sessions message h =
    let next = next_expected kept h in
    expected_if (is_ahead kept message) (Ahead (next_number kept)) _ next
    (expected_if (is_old kept message) (Old (next_number kept)) _ next
    (expected_if (is_last kept message && has_kept_body kept message) Repeat _ tt
    (expected_if (is_last kept message && not (has_kept_body kept message)) (Changed (next_number kept)) _ next
    (expected_if (is_one_too_many kept sessions) Sessions First tt tt))))

-- ---- the texts of a gate
pub malformed_is : (line : ℕ) → malformed_text line ≡ gate_line line gate.Malformed ++ 10 ∷ []
malformed_is line = simp append_assoc

sessions_is : (line session : ℕ) → sessions_text line session ≡ gate_line line (gate.Sessions session) ++ 10 ∷ []
sessions_is line session = simp append_assoc

expecting_is : (line session expected : ℕ) (why : Why) → expecting_text line session expected (why_number why) (why_word why) ≡ gate_line line (gate.Expecting session expected why) ++ 10 ∷ []
expecting_is line session expected why = simp append_assoc

accepted_is : (session number : ℕ) (reply : List ℕ) → accepted_text session number reply ≡ accepted_line number session reply ++ 10 ∷ []
accepted_is session number reply = simp append_assoc

-- by a test of each byte
pub tested_has_none : (text : List ℕ) → list_all (λ b. not (b == 10)) text ≡ true → HasNoFeed text
tested_has_none [] h = All-nil (λ b. (b == 10) ≡ false)
tested_has_none (b ∷ text) h =
    let parts = and_parts (not (b == 10)) (list_all (λ b. not (b == 10)) text) h in
    with_byte b text (grind (arith, nat_tests, parts.0)) (tested_has_none text parts.1)

pub number_has_none : (n : ℕ) → HasNoFeed (decimal n)
number_has_none n = plain_has_none (decimal n) (plain-decimal n)

accepted_has_none : (session number : ℕ) (reply : List ℕ) → HasNoFeed reply → HasNoFeed (accepted_line number session reply)
accepted_has_none session number reply one =
    both_have_none (accepted_head number) (reply ++ tail_text session)
    (both_have_none (codes "{\"number\":") _ (tested_has_none (codes "{\"number\":") refl)
    (both_have_none (decimal number) (codes ",\"of\":") (number_has_none number) (tested_has_none (codes ",\"of\":") refl)))
    (both_have_none reply (tail_text session) one
    (both_have_none (codes ",\"session\":") _ (tested_has_none (codes ",\"session\":") refl)
    (both_have_none (decimal session) (codes "}") (number_has_none session) (tested_has_none (codes "}") refl))))

-- ---- before the line of a number, where what answers the bodies stands before the next one
pub record StandsBefore {S : Type 0} (Stands : ℕ → S → Type 0) (number : ℕ) (state : SessionsState S) : Type 0 where
  pub served : state.0.served < number
  pub stands : Stands (state.0.served + 1) state.1
  pub kept : (session : ℕ) → IfSome (kept_of state.0.sessions session) IsKeptServed

module _ {S : Type 0} (Stands : ℕ → S → Type 0) where
  pub nothing_before : (start : S) → Stands 1 start → StandsBefore Stands 1 (new_sessions start)
  nothing_before start h = record { served = omega arith; stands = h; kept = λ session. tt }

  -- behind an empty line
  pub passes : (number : ℕ) (state : SessionsState S) → StandsBefore Stands number state → StandsBefore Stands (number + 1) state
  passes number state h = let lt = h.served in record { served = omega (arith, lt); stands = h.stands; kept = h.kept }

-- what is kept of a session after one more message
kept_after : (sessions : KnownSessions) (session : ℕ) (new : LastAccepted) → ((q : ℕ) → IfSome (kept_of sessions q) IsKeptServed) → IsKeptServed new
    → (q : ℕ) → IfSome (kept_of (keep sessions session new) q) IsKeptServed
kept_after sessions session new before is q =
    subst (λ o. IfSome o IsKeptServed) (sym (kept_of-keep session new sessions q))
    (elim (nat_eq q session) as (λ b. IfSome (cond b (Some new) (kept_of sessions q)) IsKeptServed) [ true ↦ is | false ↦ before q ])

kept_itself : (sessions : KnownSessions) (session : ℕ) (new : LastAccepted) → kept_of (keep sessions session new) session ≡ Some new
kept_itself sessions session new =
    kept_of-keep session new sessions session ∙ ap (λ (b : Bool). cond b (Some new) (kept_of sessions session)) (eq-eqb session session refl)

pub without_it : (text : List ℕ) → without_feed (text ++ 10 ∷ []) ≡ text
without_it text = take_at text (10 ∷ []) (length (text ++ 10 ∷ []) - 1) (omega (arith, length-append text (10 ∷ [])))

-- a body is answered by a sound line of `serve`, and what is left stands before the next one
abbrev pub AnswersBodies : {S : Type 0} → BodyStep S → (ℕ → S → Type 0) → Type 0
AnswersBodies {S} step Stands =
    (session number : ℕ) (state : S) (body : List ℕ) → IsLine number → Stands number state
    → IsServedText (step session number state body).0 × Stands (number + 1) (step session number state body).1

-- ---- what is written for a line
module _ {S : Type 0} (step : BodyStep S) (Stands : ℕ → S → Type 0) (each : AnswersBodies step Stands)
    (number : ℕ) (is_line : IsLine number) (state : SessionsState S) (before : StandsBefore Stands number state) where
  abbrev IsTold : List ℕ × SessionsState S → Type 0
  IsTold = IsAnswered (StandsBefore Stands (number + 1))

  pub gate_told : (refused : GateLine) → IsGateWithin refused → (text : List ℕ) → text ≡ gate_line number refused ++ 10 ∷ [] → IsTold (text, state)
  gate_told refused within text is = (
    record {
      text = gate_line number refused;
      is = is;
      accepted = record {
        sound = record { reply = OfGate refused; is_line = (number, ((is_line, within), refl)) };
        one = piece_has_no_feed 6 (gate_piece number refused) (gate_written number refused (is_line, within));
      };
    },
    passes Stands number state before,
  )

  reply_told : (message : Message) → IsMessage message → (reply : List ℕ) (own : ServedReply) → IsServedLineOf reply own → HasNoFeed reply
      → (next : SessionsState S) → StandsBefore Stands (number + 1) next → IsTold (accepted_text message.session message.number reply, next)
  reply_told message is reply own served one next stands = (
    record {
      text = accepted_line message.number message.session reply;
      is = accepted_is message.session message.number reply;
      accepted = record {
        sound = record {
          reply = OfServe own;
          is_line = inr (record { number = message.number; session = message.session; inner = reply; message = (is.1, is.0); served = served; is_line = refl });
        };
        one = accepted_has_none message.session message.number reply one;
      };
    },
    stands,
  )

  abbrev told_as : Message → Answer → List ℕ × SessionsState S
  told_as message answer =
      let next = after_as step answer state message in (answer_text number message answer (kept_reply next.0 message.session), next)

  -- a message that is accepted
  first_told : (message : Message) → IsMessage message → IsTold (told_as message First)
  first_told message is =
      let lt = before.served in
      let n = state.0.served + 1 in
      let answer = each message.session n state.1 message.body (omega arith, omega (arith, lt, is_line.1)) before.stands in
      let own = answer.0 in
      let now = step message.session n state.1 message.body in
      let reply = without_feed now.0 in
      let same : reply ≡ own.text = ap without_feed own.is ∙ without_it own.text in
      let new : LastAccepted = accepted_as message reply in
      let kept : IsKeptServed new = record {
        number = is.1;
        reply = own.reply;
        served = subst (λ t. IsServedLineOf t own.reply) (sym same) own.served;
        one = subst HasNoFeed (sym same) own.one;
      } in
      let next = after_answered step state message in
      let stands : StandsBefore Stands (number + 1) next = record { served = omega (arith, lt); stands = answer.1; kept = kept_after state.0.sessions message.session new before.kept kept } in
      subst (λ r. IsTold (accepted_text message.session message.number r, next)) (sym (ap reply_of (kept_itself state.0.sessions message.session new)))
      (reply_told message is reply own.reply kept.served kept.one next stands)

  -- one that was accepted before
  repeat_told : (message : Message) → IsMessage message → answer_to state.0 message ≡ Repeat → IsTold (told_as message Repeat)
  repeat_told message is e =
      let (kept, there, same_number, same_body) = repeats_are_kept state.0 message e in
      let served : IsKeptServed kept = subst (λ o. IfSome o IsKeptServed) there (before.kept message.session) in
      subst (λ r. IsTold (accepted_text message.session message.number r, state)) (sym (ap reply_of there))
      (reply_told message is kept.reply served.reply served.served served.one state (passes Stands number state before))

  answer_told : (message : Message) → IsMessage message → (answer : Answer) → answer_to state.0 message ≡ answer → IsExpectedIn answer → IsTold (told_as message answer)
  answer_told message is First e expects = first_told message is
  answer_told message is Repeat e expects = repeat_told message is e
  answer_told message is (Old expected) e expects = gate_told (gate.Expecting message.session expected why.Old) (is.0, expects) _ (expecting_is number message.session expected why.Old)
  answer_told message is (Ahead expected) e expects = gate_told (gate.Expecting message.session expected why.Ahead) (is.0, expects) _ (expecting_is number message.session expected why.Ahead)
  answer_told message is (Changed expected) e expects =
      gate_told (gate.Expecting message.session expected why.Changed) (is.0, expects) _ (expecting_is number message.session expected why.Changed)
  answer_told message is Sessions e expects = gate_told (gate.Sessions message.session) is.0 _ (sessions_is number message.session)

  said_told : (said : Option Message) → IfSome said IsMessage → IsTold (said_step step number state said)
  said_told None is = gate_told gate.Malformed tt _ (malformed_is number)
  said_told (Some message) is =
      answer_told message is (answer_to state.0 message) refl (answer_expected (kept_of state.0.sessions message.session) state.0.sessions message (before.kept message.session))

  pub answers_messages : (line : List ℕ) → IsTold (session_step step number state line)
  answers_messages line = said_told (message_in line) (message_within line)

-- ---- what a line says as a question
abbrev IsAsked : ℕ × List ℕ → Type 0
IsAsked question = IsSessionNumber question.0

asked_with : (session : Option ℕ) (body : List ℕ) → IfSome session IsSessionNumber → IfSome (question_with session body) IsAsked
asked_with None body s = tt
asked_with (Some session) body s = elim (is_body body) as (λ b. IfSome (if b then Some (session, body) else None) IsAsked) [ true ↦ s | false ↦ tt ]

asked_first : (parts : Option (List ℕ × List ℕ)) → IfSome (option_and_then (λ parts. question_with (number_to MAX_SESSION parts.0) parts.1) parts) IsAsked
asked_first None = tt
asked_first (Some parts) = asked_with (number_to MAX_SESSION parts.0) parts.1 (number_to_within MAX_SESSION parts.0)

question_within : (line : List ℕ) → IfSome (question_in line) IsAsked
question_within line = asked_first (at_comma line)

-- ---- its text
asked_is : (session : ℕ) (reply : List ℕ) → asked_text session reply ≡ question_line session reply ++ 10 ∷ []
asked_is session reply = simp append_assoc

question_has_none : (session : ℕ) (reply : List ℕ) → HasNoFeed reply → HasNoFeed (question_line session reply)
question_has_none session reply one =
    both_have_none (codes "{\"of\":") (reply ++ question_tail session) (tested_has_none (codes "{\"of\":") refl)
    (both_have_none reply (question_tail session) one
    (both_have_none (codes ",\"reply\":\"asked\",\"session\":") _ (tested_has_none (codes ",\"reply\":\"asked\",\"session\":") refl)
    (both_have_none (decimal session) (codes "}") (number_has_none session) (tested_has_none (codes "}") refl))))

-- what is asked of bodies is told by a sound line of `serve`
abbrev pub TellsBodies : {S : Type 0} → BodyQuestion S → (ℕ → S → Type 0) → Type 0
TellsBodies {S} asks Stands =
    (session number : ℕ) (state : S) (body : List ℕ) → IsLine number → Stands number state → IsServedText (asks session number state body)

module _ {S : Type 0} (step : BodyStep S) (asks : BodyQuestion S) (Stands : ℕ → S → Type 0) (each : AnswersBodies step Stands) (tells : TellsBodies asks Stands)
    (number : ℕ) (is_line : IsLine number) (state : SessionsState S) (before : StandsBefore Stands number state) where
  told : (question : ℕ × List ℕ) → IsAsked question → IsOneLine (asked_of asks state question)
  told question is =
      let lt = before.served in
      let n = state.0.served + 1 in
      let own = tells question.0 n state.1 question.1 (omega arith, omega (arith, lt, is_line.1)) before.stands in
      let reply = without_feed (asks question.0 n state.1 question.1) in
      let same : reply ≡ own.text = ap without_feed own.is ∙ without_it own.text in
      let served : IsServedLineOf reply own.reply = subst (λ t. IsServedLineOf t own.reply) (sym same) own.served in
      record {
        text = question_line question.0 reply;
        is = asked_is question.0 reply;
        accepted = record {
          sound = record { reply = OfQuestion own.reply; is_line = record { session = question.0; inner = reply; is_session = is; served = served; is_line = refl } };
          one = question_has_none question.0 reply (subst HasNoFeed (sym same) own.one);
        };
      }

  by : (question : Option (ℕ × List ℕ)) → IfSome question IsAsked → IsOneLine (option_map_or (asked_of asks state) question (malformed_text number))
  by None is = (gate_told step Stands each number is_line state before gate.Malformed tt (malformed_text number) (malformed_is number)).0
  by (Some question) is = told question is

  pub sessions_are_told : (line : List ℕ) → IsOneLine (session_asks asks number state line)
  sessions_are_told line = by (question_in line) (question_within line)
