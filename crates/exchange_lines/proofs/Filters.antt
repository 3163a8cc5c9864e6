-- Filtered lists, and sums over them.
use Rattle.std.proofs.Common.{◌≡◌, Bool, true, false, cond, List, [], ◌∷◌, filter, refl, ap, sym, ◌∙◌}
use Rattle.std.specs.List.{All}
use Rattle.std.proofs.lemmas.List.Elements.{All-head, All-tail}

module _ {X : Type 0} (p : X → Bool) where
  -- all stay, or none
  pub filter_all : (xs : List X) → All (λ x. p x ≡ true) xs → filter p xs ≡ xs
  filter_all [] all = refl
  filter_all (x ∷ xs) all =
      ap (λ b. cond b (x ∷ filter p xs) (filter p xs)) (All-head (λ x. p x ≡ true) x xs all)
      ∙ ap (λ l. x ∷ l) (filter_all xs (All-tail (λ x. p x ≡ true) x xs all))

  pub filter_none : (xs : List X) → All (λ x. p x ≡ false) xs → filter p xs ≡ []
  filter_none [] all = refl
  filter_none (x ∷ xs) all =
      ap (λ b. cond b (x ∷ filter p xs) (filter p xs)) (All-head (λ x. p x ≡ false) x xs all)
      ∙ filter_none xs (All-tail (λ x. p x ≡ false) x xs all)

  -- two filters, in either order
  pub filter_commute : (q : X → Bool) (xs : List X) → filter p (filter q xs) ≡ filter q (filter p xs)
  filter_commute q [] = refl
  filter_commute q (x ∷ xs) = by (q x) (p x) refl refl (filter_commute q xs)
    where
      P : List X
      P = filter p xs

      Q : List X
      Q = filter q xs

      by : (b c : Bool) → q x ≡ b → p x ≡ c → filter p Q ≡ filter q P → filter p (cond b (x ∷ Q) Q) ≡ filter q (cond c (x ∷ P) P)
      by true true e f later =
          ap (λ t. cond t (x ∷ filter p Q) (filter p Q)) f ∙ ap (λ l. x ∷ l) later ∙ sym (ap (λ t. cond t (x ∷ filter q P) (filter q P)) e)
      by true false e f later = ap (λ t. cond t (x ∷ filter p Q) (filter p Q)) f ∙ later
      by false true e f later = later ∙ sym (ap (λ t. cond t (x ∷ filter q P) (filter q P)) e)
      by false false e f later = later
