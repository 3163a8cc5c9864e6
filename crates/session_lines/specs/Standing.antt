-- Before a line of an input: there were fewer bodies than lines.
use Rattle.std.proofs.Common.{◌≡◌, ◌<◌, ◌↔◌, ℕ, ◌+◌, List, Option, None, Some, refl, sym, subst, arith}
use Rattle.live_lines.specs.Answering.{Answering, by_step}
use Rattle.session_gate.specs.declared.answer.Answer.{Answer}
use Rattle.session_gate.specs.declared.answer.Answer.TheVariants.{First, Repeat, Old, Ahead, Changed, Sessions}
use Rattle.session_gate.specs.Answers.{answer_to}
use Rattle.session_gate.specs.Gate.{Message}
use Rattle.session_lines.specs.Messages.{message_in}
use Rattle.session_lines.specs.Sessions.{BodyStep, SessionsState, after_as, any_session, said_step, session_step}

-- before the line of this number, where what answers the bodies stands before the next body
abbrev pub StandsBefore : {S : Type 0} → (ℕ → S → Type 0) → ℕ → SessionsState S → Type 0
StandsBefore stands number state = (state.0.served < number) × stands (state.0.served + 1) state.1

-- behind a line that a way of answering lines answers
pub stands_next : {S : Type 0} (Answers : Answering S) (step : ℕ → S → List ℕ → List ℕ × S)
    (steps : (number : ℕ) (old : S) (line text : List ℕ) (new : S) → Answers number old line text new ↔ ((text, new) ≡ step number old line)) (stands : ℕ → S → Type 0)
    (on : (number : ℕ) (state : S) → stands number state → stands (number + 1) state × ((line text : List ℕ) (new : S) → Answers number state line text new → stands (number + 1) new))
    (session number : ℕ) (state : S) (body : List ℕ) → stands number state → stands (number + 1) (any_session step session number state body).1
stands_next Answers step steps stands on session number state body h =
    let now = step number state body in
    (on number state h).1 body now.0 now.1 ((steps number state body now.0 now.1).1 refl)

module _ {S : Type 0} (step : BodyStep S) (stands : ℕ → S → Type 0)
    (on : (session number : ℕ) (state : S) (body : List ℕ) → stands number state → stands (number + 1) (step session number state body).1)
    (number : ℕ) (state : SessionsState S) (h : StandsBefore stands number state) where
  -- no body more
  none_more : StandsBefore stands (number + 1) state
  none_more = (omega (arith, h.0), h.1)

  behind_answer : (message : Message) (answer : Answer) → StandsBefore stands (number + 1) (after_as step answer state message)
  behind_answer message First = (omega (arith, h.0), on message.session (state.0.served + 1) state.1 message.body h.1)
  behind_answer message Repeat = none_more
  behind_answer message (Old expected) = none_more
  behind_answer message (Ahead expected) = none_more
  behind_answer message (Changed expected) = none_more
  behind_answer message Sessions = none_more

  behind_said : (said : Option Message) → StandsBefore stands (number + 1) (said_step step number state said).1
  behind_said None = none_more
  behind_said (Some message) = behind_answer message (answer_to state.0 message)

  -- behind a line, empty or answered
  pub stands_behind : StandsBefore stands (number + 1) state
      × ((line text : List ℕ) (new : SessionsState S) → by_step (session_step step) number state line text new → StandsBefore stands (number + 1) new)
  stands_behind = (none_more, λ line text new is. subst (λ (r : List ℕ × SessionsState S). StandsBefore stands (number + 1) r.1) (sym is) (behind_said (message_in line)))
