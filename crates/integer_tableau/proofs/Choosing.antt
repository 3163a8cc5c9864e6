-- The choices of a pivot, one column or row after another.
use Rattle.std.proofs.Common.{◌≡◌, ℕ, zero, suc, ◌+◌, ◌-◌, ◌<◌, ◌≤◌, List, [], ◌∷◌, length, drop, get_or, add-one, refl, sym, ◌∙◌, ap, subst, arith, true, false, ℤ, pos, unsigned_abs}
use Rattle.std.specs.Prelude.{Option, Some, None, IfSome, int_lt}
use Rattle.std.specs.Option.{option_map}
use Rattle.std.proofs.lemmas.List.{drop_all, get_or-take, length-map}
use Rattle.std.proofs.Math.Seq.{drop-cons}
use Rattle.exact_num.specs.Fraction.{over}
use Rattle.simplex_run.specs.Choice.{Ratio, ratio_of, least, Column}
use Rattle.fraction_tableau.specs.Candidates.{better_of, best_with}
use Rattle.run_equivalence.specs.IntegerRows.{IntegerRow, WholeRow, no_integer_row, whole_row, number_at}
use Rattle.run_equivalence.specs.WholePivoting.{whole_ratios, least_column}
use Rattle.fraction_tableau.specs.declared.columns.Entering.{Entering}
use Rattle.fraction_tableau.specs.Labels.{as_column}
use Rattle.integer_tableau.specs.Rows.{row_in, integer_rows_in, row_at, beside_basics}
use Rattle.fraction_tableau.specs.Labels.{with_column}
use Rattle.fraction_tableau.proofs.Choosing.{place_inside}
use Rattle.integer_tableau.proofs.Listed.{IsGap}

-- ---- the entering column
pub column_more : (labels : List ℕ) (zs : List ℤ) (k : ℕ) → k < length labels → k < length zs
    → least_column k (drop k labels) (drop k zs) ≡ with_column (int_lt (get_or zs k (pos 0)) (pos 0)) (record { place = k; label = get_or labels k 0 }) (least_column (k + 1) (drop (k + 1) labels) (drop (k + 1) zs))
unfolding least_column
column_more labels zs k p q =
    let a = drop-cons labels k 0 p in
    let b = drop-cons zs k (pos 0) q in
    let next : k + 1 ≡ suc k = add-one k in
    rw (a, b, next) refl

pub no_column : (labels : List ℕ) (zs : List ℤ) (k : ℕ) → length labels ≤ k → None ≡ least_column k (drop k labels) (drop k zs)
unfolding least_column
no_column labels zs k h = let none : drop k labels ≡ [] = drop_all k labels h in rw none refl

least_inside : (k : ℕ) (vs : List ℕ) (zs : List ℤ) (d : Column) → least_column k vs zs ≡ Some d → d.place < k + length vs
unfolding least_column
least_inside k [] zs d h = absurd cc
least_inside k (v ∷ vs) [] d h = absurd cc
least_inside k (v ∷ vs) (z ∷ zs) d h = place_inside k v (length vs) d (int_lt z (pos 0)) (least_column (k + 1) vs zs) (least_inside (k + 1) vs zs) h

pub inside_of : (r : Option Entering) (labels : List ℕ) (zs : List ℤ) → option_map as_column r ≡ least_column 0 labels zs → IfSome r (λ c. c.place < length labels)
inside_of None labels zs h = tt
inside_of (Some c) labels zs h = let low = least_inside 0 labels zs (as_column c) (sym h) in omega (arith, low)

-- ---- the numbers of a row
pub in_row : (w : ℕ) (row : List ℤ) (k : ℕ) → k < w → number_at (row_in w row).numbers k ≡ number_at row (k + 1)
in_row zero row k h = absurd (omega (arith, h))
in_row (suc w) [] k h = refl
in_row (suc w) (d ∷ row) k h =
    let next : suc k ≡ k + 1 = sym (add-one k) in
    get_or-take (suc w) row k (pos 0) h ∙ ap (λ (n : ℕ). number_at (d ∷ row) n) next

-- ---- the row that leaves: the choice from row i on, with the best so far, is the choice asked for
abbrev pub Chooses : ℕ → ℕ → List WholeRow → ℕ → Option Ratio → Type 0
Chooses columns c rows i best = best_with best (whole_ratios columns c i (drop i rows)) ≡ best_with None (whole_ratios columns c 0 rows)

best_joined : (best : Option Ratio) (q : Ratio) (qs : List Ratio) → best_with best (q ∷ qs) ≡ best_with (Some (better_of best q)) qs
unfolding least
best_joined None q qs = refl
best_joined (Some b) q qs = refl

pub chooses_taken : (columns c : ℕ) (rows : List WholeRow) (i basic : ℕ) (l : IntegerRow) (best : Option Ratio) → drop i rows ≡ whole_row basic l ∷ drop (suc i) rows → int_lt (pos 0) (number_at l.numbers c) ≡ true → Chooses columns c rows i best
    → Chooses columns c rows (i + 1) (Some (better_of best (ratio_of i basic (over (number_at l.numbers columns) (unsigned_abs (number_at l.numbers c))))))
unfolding whole_ratios
chooses_taken columns c rows i basic l best front above h =
    let next : drop (i + 1) rows ≡ drop (suc i) rows = rw add-one refl in
    let whole = rw above at (rw front at h) in
    rw next (sym (best_joined best (ratio_of i basic (over (number_at l.numbers columns) (unsigned_abs (number_at l.numbers c)))) (whole_ratios columns c (i + 1) (drop (suc i) rows))) ∙ whole)

pub chooses_passed : (columns c : ℕ) (rows : List WholeRow) (i basic : ℕ) (l : IntegerRow) (best : Option Ratio) → drop i rows ≡ whole_row basic l ∷ drop (suc i) rows → int_lt (pos 0) (number_at l.numbers c) ≡ false → Chooses columns c rows i best
    → Chooses columns c rows (i + 1) best
unfolding whole_ratios
chooses_passed columns c rows i basic l best front below h =
    let next : drop (i + 1) rows ≡ drop (suc i) rows = rw add-one refl in
    rw next (rw below at (rw front at h))

pub chooses_end : (columns c : ℕ) (rows : List WholeRow) (i : ℕ) (best : Option Ratio) → length rows ≤ i → Chooses columns c rows i best → best_with best [] ≡ best_with None (whole_ratios columns c 0 rows)
unfolding whole_ratios
chooses_end columns c rows i best high h =
    let none : drop i rows ≡ [] = drop_all i rows high in
    rw none at h

-- ---- the rows beside their basic variables
pub front_beside : (bs : List ℕ) (lines : List IntegerRow) (i : ℕ) (l : IntegerRow) → i < length bs → i < length lines → drop i (beside_basics bs lines) ≡ whole_row (get_or bs i 0) (get_or lines i l) ∷ drop (suc i) (beside_basics bs lines)
front_beside [] lines i l p q = absurd (omega (arith, p))
front_beside (b ∷ bs) [] i l p q = absurd (omega (arith, q))
front_beside (b ∷ bs) (x ∷ lines) zero l p q = refl
front_beside (b ∷ bs) (x ∷ lines) (suc i) l p q = front_beside bs lines i l (omega (arith, p)) (omega (arith, q))

pub length-beside : (bs : List ℕ) (lines : List IntegerRow) → length bs ≡ length lines → length (beside_basics bs lines) ≡ length lines
length-beside [] [] e = refl
length-beside [] (x ∷ lines) e = e
length-beside (b ∷ bs) [] e = refl
length-beside (b ∷ bs) (x ∷ lines) e = ap suc (length-beside bs lines (omega (arith, e)))

pub row_place : (w : ℕ) (rows : List (List ℤ)) (i : ℕ) (d : IntegerRow) → i < length rows → get_or (integer_rows_in w rows) i d ≡ row_in w (row_at rows i)
row_place w [] i d h = absurd (omega (arith, h))
row_place w (x ∷ rows) zero d h = refl
row_place w (x ∷ rows) (suc i) d h = row_place w rows i d (omega (arith, h))

-- rows that are 0 in the column do not limit it
pub chooses_on : (columns c : ℕ) (bs : List ℕ) (rows : List (List ℤ)) (i k : ℕ) (best : Option Ratio) → c < columns → length bs ≡ length rows → IsGap c i k rows
    → Chooses columns c (beside_basics bs (integer_rows_in (columns + 1) rows)) i best → Chooses columns c (beside_basics bs (integer_rows_in (columns + 1) rows)) k best
chooses_on columns c bs rows i k best column same gap g = on (k - i) i (let low = gap.low in omega (arith, low)) gap g
  where
    on : (d i : ℕ) → i + d ≡ k → IsGap c i k rows → Chooses columns c (beside_basics bs (integer_rows_in (columns + 1) rows)) i best → Chooses columns c (beside_basics bs (integer_rows_in (columns + 1) rows)) k best
    on zero i e gap g = subst (λ (n : ℕ). Chooses columns c (beside_basics bs (integer_rows_in (columns + 1) rows)) n best) (omega (arith, e)) g
    on (suc d) i e gap g =
        let lines = integer_rows_in (columns + 1) rows in
        let high = gap.high in
        let inside : i < length rows = omega (arith, e, high) in
        let front = front_beside bs lines i no_integer_row (omega (arith, inside, same)) (omega (arith, inside, length-map rows (row_in (columns + 1)))) in
        let zero_there = ap (λ (l : IntegerRow). number_at l.numbers c) (row_place (columns + 1) rows i no_integer_row inside) ∙ in_row (columns + 1) (row_at rows i) c (omega (arith, column)) ∙ gap.zero i (omega arith) (omega (arith, e)) in
        on d (i + 1) (omega (arith, e)) (record { low = omega (arith, e); high = high; zero = λ j p q. gap.zero j (omega (arith, p)) q })
        (chooses_passed columns c (beside_basics bs lines) i (get_or bs i 0) (get_or lines i no_integer_row) best front (ap (int_lt (pos 0)) zero_there) g)
