-- One body more.
use Rattle.std.proofs.Common.{◌≡◌, ℕ, ◌+◌, ◌-◌, List, [], ◌∷◌, ◌++◌, length, length-append, sym, ap, ◌∙◌, arith}
use Rattle.std.proofs.lemmas.List.{take_at}
use Rattle.session_lines.specs.Served.{last_reply, state_after, without_feed}

-- a text with a line feed at its end, which is taken away and added again
pub feed_again : (text : List ℕ) → text ++ 10 ∷ [] ≡ without_feed (text ++ 10 ∷ []) ++ 10 ∷ []
feed_again text = ap (λ t. t ++ 10 ∷ []) (sym (take_at text (10 ∷ []) (length (text ++ 10 ∷ []) - 1) (omega (arith, length-append text (10 ∷ [])))))

module _ {S : Type 0} (step : ℕ → S → List ℕ → List ℕ × S) where
  pub state_after-push : (number : ℕ) (state : S) (bodies : List (List ℕ)) (body : List ℕ)
      → state_after step number state (bodies ++ body ∷ []) ≡ (step (number + length bodies) (state_after step number state bodies) body).1
  state_after-push number state [] body = ap (λ n. (step n state body).1) (omega arith)
  state_after-push number state (first ∷ bodies) body =
      let after = (step number state first).1 in
      state_after-push (number + 1) after bodies body ∙ ap (λ n. (step n (state_after step (number + 1) after bodies) body).1) (omega arith)

  pub last_reply-push : (number : ℕ) (state : S) (bodies : List (List ℕ)) (body : List ℕ)
      → last_reply step number state (bodies ++ body ∷ []) ≡ without_feed (step (number + length bodies) (state_after step number state bodies) body).0
  last_reply-push number state [] body = ap (λ n. without_feed (step n state body).0) (omega arith)
  last_reply-push number state (first ∷ []) body =
      let after = (step number state first).1 in
      ap (λ n. without_feed (step n after body).0) (omega arith)
  last_reply-push number state (first ∷ next ∷ bodies) body =
      let after = (step number state first).1 in
      last_reply-push (number + 1) after (next ∷ bodies) body ∙ ap (λ n. without_feed (step n (state_after step (number + 1) after (next ∷ bodies)) body).0) (omega arith)
