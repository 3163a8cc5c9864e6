-- One step of a loop over the entries of a row.
use Rattle.std.proofs.Common.{◌≡◌, ℕ, zero, suc, ◌+◌, ◌<◌, List, [], ◌∷◌, ◌++◌, length, map, take, drop, set, refl, sym, ◌∙◌, ap, arith, append_assoc, add-one}
use Rattle.std.proofs.lemmas.List.{take-map, drop-map, take_more_set, map-append, drop-set-lt}
use Rattle.std.specs.Prelude.{Result, Ok, Err, slice_index_or}
use Rattle.exact_num.specs.declared.misfit.Wide.{Wide}
use Rattle.exact_num.specs.Fraction.{Fraction}
use Rattle.exact_num.specs.Fits.{after}
use Rattle.simplex_run.specs.Places.{at}

-- the entry at i, and those after it
pub front_of : {A B : Type 0} (value : A → B) (xs : List A) (i : ℕ) (x : A) → i < length xs → x ≡ slice_index_or xs i x → drop i (map value xs) ≡ value x ∷ drop (suc i) (map value xs)
front_of value [] i x low at_x = absurd (omega arith)
front_of value (a ∷ xs) zero x low at_x = ap (λ y. value y ∷ map value xs) (sym at_x)
front_of value (a ∷ xs) (suc i) x low at_x = front_of value xs i x (omega arith) at_x

pub at-map : {A : Type 0} (value : A → Fraction) (xs : List A) (e : ℕ) (x : A) → e < length xs → x ≡ slice_index_or xs e x → at (map value xs) e ≡ value x
at-map value [] e x low at_x = absurd (omega arith)
at-map value (a ∷ xs) zero x low at_x = ap value (sym at_x)
at-map value (a ∷ xs) (suc e) x low at_x = at-map value xs e x (omega arith) at_x

-- ---- items that are done, before those of a result
abbrev pub behind : {B : Type 0} → List B → Result (List B) Wide → Result (List B) Wide
behind done r = after r (λ others. Ok (done ++ others))

pub behind_more : {B : Type 0} (done : List B) (y : B) (r : Result (List B) Wide) → behind done (after r (λ others. Ok (y ∷ others))) ≡ behind (done ++ (y ∷ [])) r
behind_more done y (Ok others) = ap Ok (sym (append_assoc done (y ∷ []) others))
behind_more done y (Err w) = refl

-- item i is written: the items before i + 1, and those from it on
pub done_more : {A B : Type 0} (value : A → B) (xs : List A) (i : ℕ) (y : A) → i < length xs → take (i + 1) (map value (set xs i y)) ≡ take i (map value xs) ++ (value y ∷ [])
done_more {B} value xs i y low =
    take-map value (i + 1) (set xs i y) ∙ ap (map value) (take_more_set xs i y low) ∙ map-append value (take i xs) (y ∷ []) ∙ ap (λ (l : List B). l ++ (value y ∷ [])) (sym (take-map value i xs))

pub left_less : {A B : Type 0} (value : A → B) (xs : List A) (i : ℕ) (y : A) → drop (i + 1) (map value (set xs i y)) ≡ drop (suc i) (map value xs)
left_less value xs i y =
    rw add-one (drop-map value (suc i) (set xs i y) ∙ ap (map value) (drop-set-lt (suc i) xs i y (omega arith)) ∙ sym (drop-map value (suc i) xs))
