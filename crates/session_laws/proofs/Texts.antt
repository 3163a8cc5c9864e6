-- The answers to bodies, one after another, as a list from which each reply is taken.
use Rattle.std.proofs.Common.{◌≡◌, ℕ, zero, suc, ◌+◌, ◌-◌, List, [], ◌∷◌, ◌++◌, length, length-append, drop, get_or, refl, sym, ap, ap₂, ◌∙◌, append_assoc, arith}
use Rattle.session_gate.specs.Gate.{Message}
use Rattle.session_gate.specs.Laws.{bodies_of}
use Rattle.session_gate.specs.Runs.{Replies}
use Rattle.session_lines.specs.Served.{without_feed}
use Rattle.session_lines.specs.Sessions.{BodyStep}
use Rattle.session_lines.proofs.OneInput.{replies_of}
use Rattle.session_laws.specs.Laws.{EndsBodies, answers_to}

-- the answers to bodies, without their line feeds
abbrev pub texts_to : {S : Type 0} → BodyStep S → ℕ → S → List Message → List (List ℕ)
texts_to step number state [] = []
texts_to step number state (message ∷ messages) =
    let now = step message.session number state message.body in without_feed now.0 ∷ texts_to step (number + 1) now.1 messages

-- the reply to the last of so many bodies is the text at its place
abbrev pub reply_at : List (List ℕ) → Replies
reply_at all bodies = get_or all (length bodies - 1) []

module _ (first : List ℕ) (rest : List (List ℕ)) where
  pub text_at : (all : List (List ℕ)) (place : ℕ) → drop place all ≡ first ∷ rest → get_or all place [] ≡ first
  text_at [] zero is = cc
  text_at [] (suc place) is = cc
  text_at (text ∷ all) zero is = cc
  text_at (text ∷ all) (suc place) is = text_at all place is

  pub texts_behind : (all : List (List ℕ)) (place : ℕ) → drop place all ≡ first ∷ rest → drop (suc place) all ≡ rest
  texts_behind [] zero is = cc
  texts_behind [] (suc place) is = cc
  texts_behind (text ∷ all) zero is = cc
  texts_behind (text ∷ all) (suc place) is = texts_behind all place is

pub reply_is : (all : List (List ℕ)) (before : List (List ℕ)) (body first : List ℕ) (rest : List (List ℕ)) → drop (length before) all ≡ first ∷ rest
    → reply_at all (before ++ body ∷ []) ≡ first
reply_is all before body first rest is =
    let place : length (before ++ body ∷ []) - 1 ≡ length before = omega (arith, length-append before (body ∷ [])) in
    ap (λ n. get_or all n []) place ∙ text_at first rest all (length before) is

pub one_longer : (before : List (List ℕ)) (body : List ℕ) → length (before ++ body ∷ []) ≡ suc (length before)
one_longer before body = omega (arith, length-append before (body ∷ []))

module _ {S : Type 0} (step : BodyStep S) (ends : EndsBodies step) (all : List (List ℕ)) where
  -- the replies to bodies behind others are the answers to them
  pub answers_are : (messages : List Message) (before : List (List ℕ)) (state : S) → drop (length before) all ≡ texts_to step (length before + 1) state messages
      → replies_of (reply_at all) before (bodies_of messages) ≡ answers_to step (length before + 1) state messages
  answers_are [] before state is = refl
  answers_are (message ∷ messages) before state is =
      let number = length before + 1 in
      let now = step message.session number state message.body in
      let first = without_feed now.0 in
      let bodies = before ++ message.body ∷ [] in
      let turned : suc (length before) ≡ number = omega arith in
      let longer : length bodies ≡ number = one_longer before message.body ∙ turned in
      let left : drop (length bodies) all ≡ texts_to step (length bodies + 1) now.1 messages =
      ap (λ n. drop n all) (one_longer before message.body) ∙ texts_behind first (texts_to step (number + 1) now.1 messages) all (length before) is
      ∙ ap (λ n. texts_to step (n + 1) now.1 messages) (sym longer) in
      let rest = answers_are messages bodies now.1 left ∙ ap (λ n. answers_to step (n + 1) now.1 messages) longer in
      ap₂ (λ (t r : List ℕ). t ++ 10 ∷ r) (reply_is all before message.body first (texts_to step (number + 1) now.1 messages) is) rest
      ∙ sym (append_assoc first (10 ∷ []) (answers_to step (number + 1) now.1 messages))
      ∙ ap (λ t. t ++ answers_to step (number + 1) now.1 messages) (sym (ends message.session number state message.body))
