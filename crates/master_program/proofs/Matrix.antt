-- The rows and columns of a program whose coefficients are whole numbers, row by row.
use Rattle.std.proofs.Common.{◌≡◌, ℕ, zero, suc, ◌+◌, ◌*◌, ◌<◌, List, [], ◌∷◌, ◌++◌, length, map, take, drop, get_or, arith, ℤ, pos, ◌*ℤ◌, ◌≤ℤ◌, refl, ap, sym, ◌∙◌, subst}
use Rattle.std.specs.List.{flat_map}
use Rattle.std.proofs.lemmas.List.{length-map, length-append, get_or_append_left, get_or-append-add}
use Rattle.std.proofs.Math.Seq.{take-append_seam, drop-append-add}
use Rattle.arithmetic.specs.Sums.{dot_ℤ}
use Rattle.exact_num.specs.Fraction.{Fraction, whole, plain_dot, AtMost}
use Rattle.exact_num.specs.CommonDenominator.{AreParts}
use Rattle.exact_num.proofs.Ratios.{dot_part, whole_part, at_most_part}
use Rattle.simplex_run.specs.Places.{at, values_at, fraction_zero}
use Rattle.simplex_run.proofs.Listed.{listed_same}

-- the coefficients of rows of whole numbers
abbrev pub flat : List (List ℤ) → List Fraction
flat rows = flat_map (map whole) rows

-- each row has n entries
abbrev pub AreLong : ℕ → List (List ℤ) → Type 0
AreLong n [] = Unit {0}
AreLong n (r ∷ rows) = (length r ≡ n) × AreLong n rows

whole_count : (n : ℕ) (r : List ℤ) → length r ≡ n → length (map whole r) ≡ n
whole_count n r h = length-map r whole ∙ h

-- ---- rows
first_row : (n : ℕ) (r : List ℤ) (rest : List Fraction) → length r ≡ n → take n (map whole r ++ rest) ≡ map whole r
first_row n r rest h = ap (λ (k : ℕ). take k (map whole r ++ rest)) (sym (whole_count n r h)) ∙ take-append_seam (map whole r) rest

later_rows : (n k : ℕ) (r : List ℤ) (rest : List Fraction) → length r ≡ n → drop (n + k) (map whole r ++ rest) ≡ drop k rest
later_rows n k r rest h = ap (λ (m : ℕ). drop (m + k) (map whole r ++ rest)) (sym (whole_count n r h)) ∙ drop-append-add (map whole r) rest k

-- each row's sum is at most its right side, over F
abbrev pub RowsHold : ℕ → List (List ℤ) → List ℤ → List ℤ → Type 0
RowsHold F [] bs X = Unit {0}
RowsHold F (r ∷ rows) [] X = ⊥
RowsHold F (r ∷ rows) (b ∷ bs) X = (dot_ℤ r X ≤ℤ (b *ℤ pos F)) × RowsHold F rows bs X

pub rows_hold : (n F : ℕ) (rows : List (List ℤ)) (bs X : List ℤ) (x : List Fraction) → AreLong n rows → length bs ≡ length rows → AreParts F x X
    → ((i : ℕ) → i < length rows → AtMost (plain_dot (take n (drop (i * n) (flat rows))) x) (at (map whole bs) i))
    → RowsHold F rows bs X
rows_hold n F [] bs X x long len parts h = tt
rows_hold n F (r ∷ rows) [] X x long len parts h = absurd (omega (arith, len))
rows_hold n F (r ∷ rows) (b ∷ bs) X x long len parts h =
    let z : 0 * n ≡ 0 = omega arith in
    let first : take n (drop (0 * n) (map whole r ++ flat rows)) ≡ map whole r = ap (λ j. take n (drop j (map whole r ++ flat rows))) z ∙ first_row n r (flat rows) long.0 in
    let here : AtMost (plain_dot (map whole r) x) (whole b) = subst (λ w. AtMost (plain_dot w x) (whole b)) first (h 0 (omega arith)) in
    let later : (i : ℕ) → i < length rows → AtMost (plain_dot (take n (drop (i * n) (flat rows))) x) (at (map whole bs) i) = λ i p.
    let e : suc i * n ≡ n + i * n = omega arith in
    let same : take n (drop (suc i * n) (map whole r ++ flat rows)) ≡ take n (drop (i * n) (flat rows)) =
    ap (λ j. take n (drop j (map whole r ++ flat rows))) e ∙ ap (take n) (later_rows n (i * n) r (flat rows) long.0) in
    subst (λ w. AtMost (plain_dot w x) (at (map whole bs) i)) same (h (suc i) (omega (arith, p))) in (
      at_most_part F (plain_dot (map whole r) x) (whole b) (dot_ℤ r X) (b *ℤ pos F) (dot_part F r x X parts) (whole_part F b) here,
      rows_hold n F rows bs X x long.1 (omega (arith, len)) parts later,
    )

pub rows_split : (F : ℕ) (rs ss : List (List ℤ)) (bs cs X : List ℤ) → length rs ≡ length bs → RowsHold F (rs ++ ss) (bs ++ cs) X → RowsHold F rs bs X × RowsHold F ss cs X
rows_split F [] ss [] cs X len h = (tt, h)
rows_split F [] ss (b ∷ bs) cs X len h = absurd (omega (arith, len))
rows_split F (r ∷ rs) ss [] cs X len h = absurd (omega (arith, len))
rows_split F (r ∷ rs) ss (b ∷ bs) cs X len h = let k = rows_split F rs ss bs cs X (omega (arith, len)) h.1 in ((h.0, k.0), k.1)

-- ---- columns
abbrev pub entry : ℕ → List ℤ → ℤ
entry j r = get_or r j (pos 0)

pub at_whole : (r : List ℤ) (j : ℕ) → at (map whole r) j ≡ whole (entry j r)
at_whole [] j = refl
at_whole (x ∷ r) zero = refl
at_whole (x ∷ r) (suc j) = at_whole r j

first_entry : (n j : ℕ) (r : List ℤ) (rest : List Fraction) → length r ≡ n → j < n → at (map whole r ++ rest) j ≡ whole (entry j r)
first_entry n j r rest h low = get_or_append_left (map whole r) rest fraction_zero j (omega (arith, low, whole_count n r h)) ∙ at_whole r j

later_entry : (n j : ℕ) (r : List ℤ) (rest : List Fraction) → length r ≡ n → at (map whole r ++ rest) (n + j) ≡ at rest j
later_entry n j r rest h = ap (λ (m : ℕ). at (map whole r ++ rest) (m + j)) (sym (whole_count n r h)) ∙ get_or-append-add (map whole r) rest j fraction_zero

pub column_is : (n j : ℕ) (rows : List (List ℤ)) → AreLong n rows → j < n → values_at (λ i. at (flat rows) (i * n + j)) 0 (length rows) ≡ map whole (map (entry j) rows)
unfolding values_at
column_is n j [] long h = refl
column_is n j (r ∷ rows) long h =
    let all : List Fraction = map whole r ++ flat rows in
    let z : 0 * n + j ≡ j = omega arith in
    let here : at all (0 * n + j) ≡ whole (entry j r) = ap (at all) z ∙ first_entry n j r (flat rows) long.0 h in
    let later : (i : ℕ) → i < length rows → at all ((0 + 1 + i) * n + j) ≡ at (flat rows) ((0 + i) * n + j) = λ i low.
    let e : (0 + 1 + i) * n + j ≡ n + ((0 + i) * n + j) = omega arith in
    ap (at all) e ∙ later_entry n ((0 + i) * n + j) r (flat rows) long.0 in
    ap (λ w. w ∷ values_at (λ i. at all (i * n + j)) (0 + 1) (length rows)) here
    ∙ ap (λ w. whole (entry j r) ∷ w) (listed_same (λ i. at all (i * n + j)) (λ i. at (flat rows) (i * n + j)) (0 + 1) 0 (length rows) later ∙ column_is n j rows long.1 h)

-- ---- counts
pub flat_count : (n : ℕ) (rows : List (List ℤ)) → AreLong n rows → length (flat rows) ≡ length rows * n
flat_count n [] h = omega arith
flat_count n (r ∷ rows) h = length-append (map whole r) (flat rows) ∙ omega (arith, whole_count n r h.0, flat_count n rows h.1)
