-- What is read off, entry by entry.
use Rattle.std.proofs.Common.{◌≡◌, ℕ, ◌+◌, ◌<◌, ◌≤◌, List, [], ◌∷◌, ◌++◌, length, map, take, set, sym, ◌∙◌, ap, arith}
use Rattle.std.proofs.lemmas.List.{take_all, take_more, length-map}
use Rattle.exact_num.specs.Fraction.{Fraction}
use Rattle.simplex_run.specs.Places.{at, fraction_zero}
use Rattle.fraction_tableau.proofs.EntrySteps.{done_more}

-- the entries before i are those of the list
abbrev pub Written : {A : Type 0} → (A → Fraction) → List Fraction → ℕ → List A → Type 0
Written value xs i row = take i (map value row) ≡ take i xs

pub written_more : {A : Type 0} (value : A → Fraction) (xs : List Fraction) (i : ℕ) (row : List A) (y : A) → i < length row → length row ≡ length xs → value y ≡ at xs i → Written value xs i row → Written value xs (i + 1) (set row i y)
written_more value xs i row y low width is_y h =
    done_more value row i y low
    ∙ ap (λ (l : List Fraction). l ++ (value y ∷ [])) h
    ∙ ap (λ (z : Fraction). take i xs ++ (z ∷ [])) is_y
    ∙ sym (take_more xs i fraction_zero (omega (arith, low, width)))

pub written_all : {A : Type 0} (value : A → Fraction) (xs : List Fraction) (i : ℕ) (row : List A) → length row ≤ i → length row ≡ length xs → Written value xs i row → map value row ≡ xs
written_all value xs i row high width h =
    sym (take_all i (map value row) (rw length-map high)) ∙ h ∙ take_all i xs (omega (arith, high, width))
