-- Before a line of an input: fewer lines asked than there were.
use Rattle.std.proofs.Common.{◌≡◌, ◌<◌, ◌↔◌, ℕ, ◌+◌, ◌-◌, Bool, true, false, List, if◌then◌else◌, refl, sym, subst, arith}
use Rattle.live_lines.specs.Answering.{Answering, by_step}
use Rattle.asked_lines.specs.Asked.{AskedState, asked_step, is_question, other_step, question_step}

abbrev pub StandsAsked : {S : Type 0} → (ℕ → S → Type 0) → ℕ → AskedState S → Type 0
StandsAsked stands number state = (state.asked < number) × stands (number - state.asked) state.inner

module _ {S : Type 0} (ask : ℕ → S → List ℕ → List ℕ) (step : ℕ → S → List ℕ → List ℕ × S) (Answers : Answering S)
    (steps : (number : ℕ) (old : S) (line text : List ℕ) (new : S) → Answers number old line text new ↔ ((text, new) ≡ step number old line)) (stands : ℕ → S → Type 0)
    (on : (number : ℕ) (state : S) → stands number state → stands (number + 1) state × ((line text : List ℕ) (new : S) → Answers number state line text new → stands (number + 1) new))
    (number : ℕ) (state : AskedState S) (h : StandsAsked stands number state) where
  abbrev own : ℕ
  own = number - state.asked

  -- the number among the others goes on
  goes : own + 1 ≡ (number + 1) - state.asked
  goes = omega (arith, h.0)

  -- or stays
  stays : own ≡ (number + 1) - (state.asked + 1)
  stays = omega (arith, h.0)

  none_more : StandsAsked stands (number + 1) state
  none_more = (omega (arith, h.0), subst (λ n. stands n state.inner) goes (on own state.inner h.1).0)

  behind_question : (line : List ℕ) → StandsAsked stands (number + 1) (question_step ask number state line).1
  behind_question line = (omega (arith, h.0), subst (λ n. stands n state.inner) stays h.1)

  behind_other : (line : List ℕ) → StandsAsked stands (number + 1) (other_step step number state line).1
  behind_other line =
      let now = step own state.inner line in
      (omega (arith, h.0), subst (λ n. stands n now.1) goes ((on own state.inner h.1).1 line now.0 now.1 ((steps own state.inner line now.0 now.1).1 refl)))

  behind : (line : List ℕ) → StandsAsked stands (number + 1) (asked_step ask step number state line).1
  behind line = by (is_question line)
    where
      by : (b : Bool) → StandsAsked stands (number + 1) (if b then question_step ask number state line else other_step step number state line).1
      by true = behind_question line
      by false = behind_other line

  pub stands_asked : StandsAsked stands (number + 1) state
      × ((line text : List ℕ) (new : AskedState S) → by_step (asked_step ask step) number state line text new → StandsAsked stands (number + 1) new)
  stands_asked = (none_more, λ line text new is. subst (λ (r : List ℕ × AskedState S). StandsAsked stands (number + 1) r.1) (sym is) (behind line))
