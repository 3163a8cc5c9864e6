-- One step of a loop that pushes entries.
use Rattle.std.proofs.Common.{◌≡◌, ℕ, ◌+◌, ◌<◌, ◌≤◌, List, [], ◌∷◌, ◌++◌, length, map, take, sym, ◌∙◌, ap, append_assoc}
use Rattle.std.proofs.lemmas.List.{take_more, take_all, map-append}
use Rattle.exact_num.specs.Fraction.{Fraction}
use Rattle.simplex_run.specs.Places.{at, fraction_zero}

-- x is entry i of xs, of which the first i stand at the end
pub pushed : {A : Type 0} (value : A → Fraction) (old new : List A) (x : A) (start xs : List Fraction) (i : ℕ) → map value old ≡ start ++ take i xs → new ≡ old ++ (x ∷ []) → i < length xs → value x ≡ at xs i → map value new ≡ start ++ take (i + 1) xs
pushed value old new x start xs i h is_new low same =
    ap (map value) is_new ∙ map-append value old (x ∷ [])
    ∙ ap (λ (l : List Fraction). l ++ (value x ∷ [])) h
    ∙ append_assoc start (take i xs) (value x ∷ [])
    ∙ ap (λ (y : Fraction). start ++ (take i xs ++ (y ∷ []))) same
    ∙ ap (λ (l : List Fraction). start ++ l) (sym (take_more xs i fraction_zero low))

pub all_pushed : {A : Type 0} (value : A → Fraction) (new : List A) (start xs : List Fraction) (i : ℕ) → map value new ≡ start ++ take i xs → length xs ≤ i → map value new ≡ start ++ xs
all_pushed value new start xs i h high = h ∙ ap (λ (l : List Fraction). start ++ l) (take_all i xs high)
