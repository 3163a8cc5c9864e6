-- Loops that make a row, entry by entry.
use Rattle.std.proofs.Common.{◌≡◌, ℕ, zero, suc, ◌+◌, ◌<◌, ◌≤◌, List, [], ◌∷◌, ◌++◌, length, get_or, map, set, take, drop, zip, replicate, append_assoc, append-nil, add-one, arith, refl, sym, ap, ◌∙◌, Result, Ok, Err}
use Rattle.std.proofs.lemmas.Grind.{common_steps}
use Rattle.std.proofs.lemmas.List.{drop_all, take_more_set, map-append}
use Rattle.exact_num.specs.declared.misfit.Wide.{Wide}
use Rattle.exact_num.specs.Fraction.{Fraction}
use Rattle.exact_num.specs.Fits.{after}
use Rattle.frac.specs.declared.frac128.Frac128.{Frac128}
use Rattle.frac.specs.Value.{fraction_of}
use Rattle.cell_cover.specs.Walk.{each_of}

-- ---- what is next
pub map_next : {A B : Type 0} (f : A → B) (xs : List A) (count i : ℕ) (x : A) → i < count → count ≤ length xs
    → drop i (map f (take count xs)) ≡ f (get_or xs i x) ∷ drop (i + 1) (map f (take count xs))
map_next f xs count i x lt le = rw add-one (go xs count i lt le)
  where
    go : (xs : List _) (count i : ℕ) → i < count → count ≤ length xs → drop i (map f (take count xs)) ≡ f (get_or xs i x) ∷ drop (suc i) (map f (take count xs))
    go [] zero i lt le = absurd (omega arith)
    go [] (suc count) i lt le = absurd (omega arith)
    go (a ∷ xs) zero i lt le = absurd (omega arith)
    go (a ∷ xs) (suc count) zero lt le = refl
    go (a ∷ xs) (suc count) (suc i) lt le = go xs count i (omega arith) (omega arith)

pub zip_next : {A B : Type 0} (f : A → B) (xs ys : List A) (count i : ℕ) (x y : A) → i < count → count ≤ length xs → count ≤ length ys
    → drop i (zip (map f (take count xs)) (map f (take count ys))) ≡ (f (get_or xs i x), f (get_or ys i y)) ∷ drop (i + 1) (zip (map f (take count xs)) (map f (take count ys)))
zip_next f xs ys count i x y lt le le2 = rw add-one (go xs ys count i lt le le2)
  where
    go : (xs ys : List _) (count i : ℕ) → i < count → count ≤ length xs → count ≤ length ys
        → drop i (zip (map f (take count xs)) (map f (take count ys))) ≡ (f (get_or xs i x), f (get_or ys i y)) ∷ drop (suc i) (zip (map f (take count xs)) (map f (take count ys)))
    go [] ys count i lt le le2 = absurd (omega arith)
    go (a ∷ xs) [] count i lt le le2 = absurd (omega arith)
    go (a ∷ xs) (b ∷ ys) zero i lt le le2 = absurd (omega arith)
    go (a ∷ xs) (b ∷ ys) (suc count) zero lt le le2 = refl
    go (a ∷ xs) (b ∷ ys) (suc count) (suc i) lt le le2 = go xs ys count i (omega arith) (omega arith) (omega arith)

pub map_length : {A B : Type 0} (f : A → B) (xs : List A) (count : ℕ) → length (map f (take count xs)) ≤ count
map_length f [] zero = omega arith
map_length f [] (suc count) = omega arith
map_length f (a ∷ xs) zero = omega arith
map_length f (a ∷ xs) (suc count) = omega (arith, map_length f xs count)

pub zip_length : {A B : Type 0} (f : A → B) (xs ys : List A) (count : ℕ) → length (zip (map f (take count xs)) (map f (take count ys))) ≤ count
zip_length f [] ys zero = omega arith
zip_length f [] ys (suc count) = omega arith
zip_length f (a ∷ xs) ys zero = omega arith
zip_length f (a ∷ xs) [] (suc count) = omega arith
zip_length f (a ∷ xs) (b ∷ ys) (suc count) = omega (arith, zip_length f xs ys count)

-- ---- steps that may not fit: the first i are written
pub record MadeTo {A : Type 0} (step : A → Result Fraction Wide) (zs : List A) (made : List Frac128) (i : ℕ) : Type 0 where
  pub nine : length made ≡ 9
  pub so_far : each_of step zs ≡ after (each_of step (drop i zs)) (λ rest. Ok (map fraction_of (take i made) ++ rest))

more_after : (front more : List Fraction) (x : Fraction) (r : Result (List Fraction) Wide) → more ≡ front ++ x ∷ []
    → after (after r (λ z. Ok (x ∷ z))) (λ z. Ok (front ++ z)) ≡ after r (λ z. Ok (more ++ z))
more_after front more x (Ok z) e = ap (λ (l : List Fraction). Ok l) (sym (append_assoc front (x ∷ []) z) ∙ ap (λ (l : List Fraction). l ++ z) (sym e))
more_after front more x (Err w) e = refl

map_push : (made : List Frac128) (i : ℕ) (y : Frac128) → i < length made → map fraction_of (take (i + 1) (set made i y)) ≡ map fraction_of (take i made) ++ fraction_of y ∷ []
map_push made i y lt = ap (map fraction_of) (take_more_set made i y lt) ∙ map-append fraction_of (take i made) (y ∷ [])

pub made_more : {A : Type 0} (step : A → Result Fraction Wide) (zs : List A) (made : List Frac128) (i : ℕ) (z : A) (y : Frac128) → MadeTo step zs made i → drop i zs ≡ z ∷ drop (i + 1) zs → i < 9 → step z ≡ Ok (fraction_of y)
    → MadeTo step zs (set made i y) (i + 1)
made_more step zs made i z y so here lt ok = record {
  nine = grind (arith, common_steps, so.nine);
  so_far =
      so.so_far
      ∙ ap (λ (l : List _). after (each_of step l) (λ rest. Ok (map fraction_of (take i made) ++ rest))) here
      ∙ ap (λ (r : Result Fraction Wide). after (after r (λ y. after (each_of step (drop (i + 1) zs)) (λ ys. Ok (y ∷ ys)))) (λ rest. Ok (map fraction_of (take i made) ++ rest))) ok
      ∙ more_after (map fraction_of (take i made)) (map fraction_of (take (i + 1) (set made i y))) (fraction_of y) (each_of step (drop (i + 1) zs)) (map_push made i y (omega (arith, so.nine)));
}

pub made_stop : {A : Type 0} (step : A → Result Fraction Wide) (zs : List A) (made : List Frac128) (i : ℕ) (z : A) (w : Wide) → MadeTo step zs made i → drop i zs ≡ z ∷ drop (i + 1) zs → step z ≡ Err w → each_of step zs ≡ Err w
made_stop step zs made i z w so here err =
    so.so_far
    ∙ ap (λ (l : List _). after (each_of step l) (λ rest. Ok (map fraction_of (take i made) ++ rest))) here
    ∙ ap (λ (r : Result Fraction Wide). after (after r (λ y. after (each_of step (drop (i + 1) zs)) (λ ys. Ok (y ∷ ys)))) (λ rest. Ok (map fraction_of (take i made) ++ rest))) err

pub made_end : {A : Type 0} (step : A → Result Fraction Wide) (zs : List A) (made : List Frac128) (i : ℕ) → MadeTo step zs made i → length zs ≤ i → each_of step zs ≡ Ok (map fraction_of (take i made))
made_end step zs made i so le =
    so.so_far
    ∙ ap (λ (l : List _). after (each_of step l) (λ rest. Ok (map fraction_of (take i made) ++ rest))) (drop_all i zs le)
    ∙ ap (λ (l : List Fraction). Ok l) (append-nil (map fraction_of (take i made)))

-- ---- what always fits
pub record MappedTo {A : Type 0} (g : A → Fraction) (zs : List A) (made : List Frac128) (i : ℕ) : Type 0 where
  pub nine : length made ≡ 9
  pub so_far : map g zs ≡ map fraction_of (take i made) ++ map g (drop i zs)

pub mapped_more : {A : Type 0} (g : A → Fraction) (zs : List A) (made : List Frac128) (i : ℕ) (z : A) (y : Frac128) → MappedTo g zs made i → drop i zs ≡ z ∷ drop (i + 1) zs → i < 9 → fraction_of y ≡ g z
    → MappedTo g zs (set made i y) (i + 1)
mapped_more g zs made i z y so here lt is = record {
  nine = grind (arith, common_steps, so.nine);
  so_far =
      so.so_far
      ∙ ap (λ (l : List _). map fraction_of (take i made) ++ map g l) here
      ∙ ap (λ w. map fraction_of (take i made) ++ w ∷ map g (drop (i + 1) zs)) (sym is)
      ∙ sym (append_assoc (map fraction_of (take i made)) (fraction_of y ∷ []) (map g (drop (i + 1) zs)))
      ∙ ap (λ l. l ++ map g (drop (i + 1) zs)) (sym (map_push made i y (omega (arith, so.nine))));
}

pub mapped_end : {A : Type 0} (g : A → Fraction) (zs : List A) (made : List Frac128) (i : ℕ) → MappedTo g zs made i → length zs ≤ i → map g zs ≡ map fraction_of (take i made)
mapped_end g zs made i so le = so.so_far ∙ ap (λ l. map fraction_of (take i made) ++ map g l) (drop_all i zs le) ∙ append-nil (map fraction_of (take i made))

-- ---- a row of zeros
pub zeros_are : (count nine : ℕ) (z : Frac128) (zero_of : Fraction) → count ≤ nine → fraction_of z ≡ zero_of → map fraction_of (take count (replicate nine z)) ≡ replicate count zero_of
zeros_are zero nine z zero_of le is = refl
zeros_are (suc count) zero z zero_of le is = absurd (omega arith)
zeros_are (suc count) (suc nine) z zero_of le is = ap (λ x. x ∷ map fraction_of (take count (replicate nine z))) is ∙ ap (λ xs. zero_of ∷ xs) (zeros_are count nine z zero_of (omega arith) is)
