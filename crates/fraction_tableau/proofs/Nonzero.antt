-- The list of the places where a row is not 0.
use Rattle.std.proofs.Common.{◌≡◌, ℕ, zero, suc, ◌+◌, ◌-◌, ◌<◌, ◌≤◌, List, [], ◌∷◌, ◌++◌, length, map, take, drop, true, false, Bool, refl, sym, ◌∙◌, ap, subst, arith, append_assoc, add-one}
use Rattle.std.proofs.lemmas.List.{drop_all, length-map, take_rest}
use Rattle.std.specs.List.{All}
use Rattle.std.proofs.lemmas.List.Elements.{All-drop, All-from_get_or}
use Rattle.std.specs.Prelude.{slice_index_or, if◌then◌else◌}
use Rattle.exact_num.specs.Fraction.{Fraction}
use Rattle.fraction_tableau.specs.Nonzero.{is_zero, nonzero_from, nonzero_places}
use Rattle.fraction_tableau.proofs.EntrySteps.{front_of}

-- ---- the list of the places
pub passes_zero : {A : Type 0} (value : A → Fraction) (xs : List A) (j : ℕ) (x : A) (done all : List ℕ) → j < length xs → x ≡ slice_index_or xs j x → is_zero (value x) ≡ true
    → done ++ nonzero_from j (drop j (map value xs)) ≡ all → done ++ nonzero_from (j + 1) (drop (j + 1) (map value xs)) ≡ all
unfolding nonzero_from
passes_zero value xs j x done all low at_x test h =
    let next : drop (j + 1) (map value xs) ≡ drop (suc j) (map value xs) = rw add-one refl in
    rw next (rw (front_of value xs j x low at_x, test) at h)

pub takes_nonzero : {A : Type 0} (value : A → Fraction) (xs : List A) (j : ℕ) (x : A) (done all : List ℕ) → j < length xs → x ≡ slice_index_or xs j x → is_zero (value x) ≡ false
    → done ++ nonzero_from j (drop j (map value xs)) ≡ all → (done ++ j ∷ []) ++ nonzero_from (j + 1) (drop (j + 1) (map value xs)) ≡ all
unfolding nonzero_from
takes_nonzero value xs j x done all low at_x test h =
    let next : drop (j + 1) (map value xs) ≡ drop (suc j) (map value xs) = rw add-one refl in
    let whole = rw (front_of value xs j x low at_x, test) at h in
    rw next (append_assoc done (j ∷ []) (nonzero_from (j + 1) (drop (suc j) (map value xs))) ∙ whole)

pub all_taken : {A : Type 0} (value : A → Fraction) (xs : List A) (j : ℕ) (done all : List ℕ) → length xs ≤ j → done ++ nonzero_from j (drop j (map value xs)) ≡ all → done ≡ all
unfolding nonzero_from
all_taken value xs j done all high h =
    let none : drop j (map value xs) ≡ [] = drop_all j (map value xs) (rw length-map high) in
    (rw append-nil at (rw none at h))
  where
    append-nil : {X : Type 0} (ys : List X) → ys ++ [] ≡ ys
    append-nil [] = refl
    append-nil (y ∷ ys) = ap (λ zs. y ∷ zs) (append-nil ys)

-- each place is one of the row
inside_from : (i : ℕ) (ps : List Fraction) (k : ℕ) → k < length (nonzero_from i ps) → slice_index_or (nonzero_from i ps) k 0 < i + length ps
unfolding nonzero_from
inside_from i [] k low = absurd (omega (arith, low))
inside_from i (p ∷ ps) k low = step (is_zero p) k low (inside_from (i + 1) ps)
  where
    step : (b : Bool) (k : ℕ) → k < length (if b then nonzero_from (i + 1) ps else i ∷ nonzero_from (i + 1) ps)
        → ((k : ℕ) → k < length (nonzero_from (i + 1) ps) → slice_index_or (nonzero_from (i + 1) ps) k 0 < (i + 1) + length ps)
        → slice_index_or (if b then nonzero_from (i + 1) ps else i ∷ nonzero_from (i + 1) ps) k 0 < i + suc (length ps)
    step true k low later = omega (arith, later k low)
    step false zero low later = omega arith
    step false (suc k) low later = omega (arith, later k (omega (arith, low)))

place_inside : (ps : List Fraction) (k : ℕ) → k < length (nonzero_places ps) → slice_index_or (nonzero_places ps) k 0 < length ps
place_inside ps k low = omega (arith, inside_from 0 ps k low)

module _ {A : Type 0} (value : A → Fraction) (row : List A) (places : List ℕ) (w : ℕ) (are : places ≡ nonzero_places (map value row)) (wide : length row ≡ w) where
  pub place_below : (i : ℕ) → i < length places → slice_index_or places i 0 < w
  place_below i low =
      let inside = subst (λ (l : List ℕ). i < length l → slice_index_or l i 0 < length (map value row)) (sym are) (place_inside (map value row) i) low in
      omega (arith, inside, length-map row value, wide)

  pub places_below : (n : ℕ) → All (λ k. k < w) (take (length places - n) (drop n places))
  places_below n = subst (All (λ k. k < w)) (sym (take_rest places n)) (All-drop (λ k. k < w) n places (All-from_get_or (λ k. k < w) places 0 place_below))
