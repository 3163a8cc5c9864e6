-- One step of the loop over the rows of an arena.
use Rattle.std.proofs.Common.{◌≡◌, ℕ, zero, suc, ◌+◌, ◌<◌, ◌≤◌, List, [], ◌∷◌, length, map, take, drop, set, refl, sym, ◌∙◌, ap, arith, subst, pos}
use Rattle.std.proofs.lemmas.List.{drop_all, take_all, length-map, append-nil}
use Rattle.std.specs.Prelude.{Result, Ok, Err, slice_index_or}
use Rattle.std.proofs.lemmas.Bool.{eq-eqb, ne_eqb}
use Rattle.exact_num.specs.declared.misfit.Wide.{Wide}
use Rattle.exact_num.specs.Fraction.{Fraction, IsLowest}
use Rattle.exact_num.proofs.Values.{whole_is_lowest}
use Rattle.simplex_run.specs.Places.{at}
use Rattle.exact_num.specs.Fits.{after, written_back}
use Rattle.fraction_tableau.proofs.EntrySteps.{front_of, behind, behind_more, done_more, left_less}
use Rattle.simplex_run.specs.Pivot.{divided, eliminated}
use Rattle.fraction_tableau.specs.Lists.{front, fronts, list_after, lists_after, lists_after_pivot}

module _ {A : Type 0} (V : A → List Fraction) (L c : ℕ) (labels : List ℕ) (r : ℕ) (P : List Fraction) where
  step : (rows : List A) (i : ℕ) (x : A) → i < length rows → x ≡ slice_index_or rows i x
      → lists_after L c labels r P i (drop i (map V rows)) ≡ after (list_after L c labels r P i (V x)) (λ y. after (lists_after L c labels r P (i + 1) (drop (suc i) (map V rows))) (λ ys. Ok (y ∷ ys)))
  unfolding lists_after
  step rows i x low at_x = let front = front_of V rows i x low at_x in rw front refl

  abbrev pub Cleared : List A → ℕ → List A → Type 0
  Cleared old i rows = behind (take i (map V rows)) (lists_after L c labels r P i (drop i (map V rows))) ≡ lists_after L c labels r P 0 (map V old)

  pub cleared_more : (old rows : List A) (i : ℕ) (x y : A) → i < length rows → x ≡ slice_index_or rows i x → list_after L c labels r P i (V x) ≡ Ok (V y) → Cleared old i rows → Cleared old (i + 1) (set rows i y)
  cleared_more old rows i x y low at_x fits was =
      let done = done_more V rows i y low in
      let left = left_less V rows i y in
      let whole = rw (step rows i x low at_x, fits) at was in
      rw (done, left) (sym (behind_more (take i (map V rows)) (V y) (lists_after L c labels r P (i + 1) (drop (suc i) (map V rows)))) ∙ whole)

  pub cleared_stop : (old rows : List A) (i : ℕ) (x : A) (w : Wide) → i < length rows → x ≡ slice_index_or rows i x → list_after L c labels r P i (V x) ≡ Err w → Cleared old i rows → Err w ≡ lists_after L c labels r P 0 (map V old)
  cleared_stop old rows i x w low at_x stops was = rw (step rows i x low at_x, stops) at was

  pub cleared_end : (old rows : List A) (i : ℕ) → length rows ≤ i → Cleared old i rows → Ok (map V rows) ≡ lists_after L c labels r P 0 (map V old)
  unfolding lists_after
  cleared_end old rows i high was =
      let none : drop i (map V rows) ≡ [] = drop_all i (map V rows) (rw length-map high) in
      let all : take i (map V rows) ≡ map V rows = take_all i (map V rows) (rw length-map high) in
      ap Ok (sym (append-nil (map V rows))) ∙ (rw (none, all) at was)

  -- the pivot row and another one
  pub at_pivot : (i : ℕ) (xs : List Fraction) → i ≡ r → list_after L c labels r P i xs ≡ Ok P
  at_pivot i xs e = let t = eq-eqb i r e in rw t refl

  pub at_other : (i : ℕ) (xs : List Fraction) → (i ≡ r → ⊥) → list_after L c labels r P i xs ≡ eliminated L c labels P xs
  at_other i xs ne = let t = ne_eqb i r ne in rw t refl

pub set_here : {A : Type 0} (xs : List A) (i : ℕ) (x d : A) → i < length xs → x ≡ slice_index_or xs i d → set xs i x ≡ xs
set_here [] i x d h e = absurd (omega (arith, h))
set_here (y ∷ xs) zero x d h e = ap (λ z. z ∷ xs) e
set_here (y ∷ xs) (suc i) x d h e = ap (λ z. y ∷ z) (set_here xs i x d (omega (arith, h)) e)

-- any default will do within the list
pub any_default : {A : Type 0} (xs : List A) (i : ℕ) (d e : A) → i < length xs → slice_index_or xs i d ≡ slice_index_or xs i e
any_default [] i d e h = absurd (omega (arith, h))
any_default (y ∷ xs) zero d e h = refl
any_default (y ∷ xs) (suc i) d e h = any_default xs i d e (omega (arith, h))

pub at_set_other : {A : Type 0} (xs : List A) (i j : ℕ) (y d : A) → (j ≡ i → ⊥) → slice_index_or (set xs i y) j d ≡ slice_index_or xs j d
at_set_other [] i j y d ne = refl
at_set_other (x ∷ xs) zero zero y d ne = absurd (ne refl)
at_set_other (x ∷ xs) zero (suc j) y d ne = refl
at_set_other (x ∷ xs) (suc i) zero y d ne = refl
at_set_other (x ∷ xs) (suc i) (suc j) y d ne = at_set_other xs i j y d (λ e. ne (ap suc e))

pub at_set_same : {A : Type 0} (xs : List A) (i : ℕ) (y d : A) → i < length xs → slice_index_or (set xs i y) i d ≡ y
at_set_same [] i y d h = absurd (omega (arith, h))
at_set_same (x ∷ xs) zero y d h = refl
at_set_same (x ∷ xs) (suc i) y d h = at_set_same xs i y d (omega (arith, h))

take_none : {A : Type 0} (w : ℕ) → take {A = A} w [] ≡ []
take_none zero = refl
take_none (suc w) = refl

-- the front of a row, by its place
pub at_fronts : {A : Type 0} (f : A → Fraction) (w : ℕ) (rows : List (List A)) (i : ℕ) → slice_index_or (fronts f w rows) i [] ≡ front f w (slice_index_or rows i [])
at_fronts f w [] i = sym (ap (map f) (take_none w))
at_fronts f w (x ∷ rows) zero = refl
at_fronts f w (x ∷ rows) (suc i) = at_fronts f w rows i

pub lowest_all : {A : Type 0} (f : A → Fraction) → ((x : A) → IsLowest (f x)) → (xs : List A) (j : ℕ) → IsLowest (at (map f xs) j)
lowest_all f h [] j = whole_is_lowest (pos 0)
lowest_all f h (x ∷ xs) zero = h x
lowest_all f h (x ∷ xs) (suc j) = lowest_all f h xs j

pub fronts_lowest : {A : Type 0} (f : A → Fraction) → ((x : A) → IsLowest (f x)) → (w : ℕ) (rows : List (List A)) (i j : ℕ) → IsLowest (at (slice_index_or (fronts f w rows) i []) j)
fronts_lowest f h w rows i j = subst (λ xs. IsLowest (at xs j)) (sym (at_fronts f w rows i)) (lowest_all f h (take w (slice_index_or rows i [])) j)

-- ---- the pivot row is not read by what is done to the rows
pivot_unread : (L c : ℕ) (labels : List ℕ) (r : ℕ) (P : List Fraction) (i j : ℕ) (rows : List (List Fraction)) (y : List Fraction) → i + j ≡ r → lists_after L c labels r P i (set rows j y) ≡ lists_after L c labels r P i rows
unfolding lists_after
pivot_unread L c labels r P i j [] y e = refl
pivot_unread L c labels r P i zero (xs ∷ rows) y e = let t = eq-eqb i r (omega (arith, e)) in rw t refl
pivot_unread L c labels r P i (suc j) (xs ∷ rows) y e =
    ap (λ z. after (list_after L c labels r P i xs) (λ first. after z (λ others. Ok (first ∷ others)))) (pivot_unread L c labels r P (i + 1) j rows y (omega (arith, e)))

pub turned_is : (L c : ℕ) (labels : List ℕ) (r : ℕ) (rows : List (List Fraction)) (P last : List Fraction) → divided L c labels (slice_index_or rows r []) ≡ Ok P
    → lists_after_pivot L c labels r rows last ≡ after (lists_after L c labels r P 0 (set rows r P)) (λ others. after (eliminated L c labels P last) (λ l. Ok (others, l)))
turned_is L c labels r rows P last e = let unread = pivot_unread L c labels r P 0 r rows P (omega arith) in rw (e, unread) refl

pub beside : {T A B : Type 0} (q : Result T Wide) (a : A) (b : B) → written_back {A = A × B} q (a, b) ≡ after (written_back q b) (λ l. Ok (a, l))
beside (Ok t) a b = refl
beside (Err w) a b = refl
