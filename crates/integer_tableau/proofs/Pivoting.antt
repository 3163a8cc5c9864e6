-- A pivot of the table whose lists are kept apart.
use Rattle.std.proofs.Common.{◌≡◌, ℕ, zero, suc, ◌+◌, ◌<◌, List, [], ◌∷◌, length, set, get_or, refl, sym, ◌∙◌, ap, subst, arith, Bool, true, false, nat_eq, ℤ, pos, unsigned_abs, length-set}
use Rattle.std.specs.Prelude.{Some, None, ◌&&◌, int_lt, if◌then◌else◌}
use Rattle.std.proofs.lemmas.Bool.{and_from, eq-eqb, le-leb, ne_eqb}
use Rattle.std.proofs.lemmas.List.{length-map}
use Rattle.simplex_run.specs.Choice.{Ratio, least}
use Rattle.fraction_tableau.specs.Candidates.{best_with}
use Rattle.run_equivalence.specs.IntegerRows.{IntegerRow, WholeRow, whole_row, integer_row, row_size, number_at, integer_row_at, no_integer_row, rows_fit, IntegerTable, basic_of}
use Rattle.run_equivalence.specs.WholePivoting.{cut, whole_ratios, steps_within, row_steps_within, rows_steps_within, table_steps_within, leaving_fits, exchanged_in, row_eliminated, whole_rows_after, whole_pivoted, whole_leave, whole_pivot, pivot_fits}
use Rattle.run_equivalence.proofs.PivotSteps.{AllOf, IsCandidate, candidates, Leaves, leaves}
use Rattle.integer_tableau.specs.Rows.{row_in, integer_rows_in, row_at, beside_basics, AreRowsIn, IsEliminated, IsPivot, IsPivoted}
use Rattle.integer_tableau.specs.Tables.{table_of}
use Rattle.integer_tableau.proofs.Choosing.{row_place, length-beside}
use Rattle.integer_tableau.proofs.Turned.{row_of_sizes}

-- ---- the rows beside their basic variables
pub row_beside : (bs : List ℕ) (lines : List IntegerRow) (r : ℕ) → length bs ≡ length lines → integer_row_at (beside_basics bs lines) r ≡ get_or lines r no_integer_row
row_beside [] [] r e = refl
row_beside [] (l ∷ lines) r e = absurd (omega (arith, e))
row_beside (b ∷ bs) [] r e = absurd (omega (arith, e))
row_beside (b ∷ bs) (l ∷ lines) zero e = refl
row_beside (b ∷ bs) (l ∷ lines) (suc r) e = row_beside bs lines r (omega (arith, e))

pub basic_beside : (bs : List ℕ) (lines : List IntegerRow) (r : ℕ) → length bs ≡ length lines → basic_of (beside_basics bs lines) r ≡ get_or bs r 0
basic_beside [] lines r e = refl
basic_beside (b ∷ bs) [] r e = absurd (omega (arith, e))
basic_beside (b ∷ bs) (l ∷ lines) zero e = refl
basic_beside (b ∷ bs) (l ∷ lines) (suc r) e = basic_beside bs lines r (omega (arith, e))

module _ (limit w c e r a most : ℕ) (P : List ℤ) where
  -- past the pivot row
  past : (bs : List ℕ) (rows new : List (List ℤ)) (i : ℕ) → length bs ≡ length rows → length new ≡ length rows → r < i
      → ((j : ℕ) → j < length rows → (i + j ≡ r → ⊥) → IsEliminated limit c a most P (row_in w (row_at rows j)) (row_in w (row_at new j))) → whole_rows_after c e r a P i (beside_basics bs (integer_rows_in w rows)) ≡ beside_basics bs (integer_rows_in w new)
  unfolding whole_rows_after
  past [] rows new i s m p g = refl
  past (b ∷ bs) [] new i s m p g = absurd (omega (arith, s))
  past (b ∷ bs) (x ∷ rows) [] i s m p g = absurd (omega (arith, m))
  past (b ∷ bs) (x ∷ rows) (y ∷ new) i s m p g =
      let t = ne_eqb i r (λ q. omega (arith, p, q)) in
      let later = past bs rows new (i + 1) (omega (arith, s)) (omega (arith, m)) (omega (arith, p)) (λ j low apart. g (suc j) (omega (arith, low)) (λ q. apart (omega (arith, q)))) in
      rw (t, later) (ap (λ (l : IntegerRow). whole_row b l ∷ beside_basics bs (integer_rows_in w new)) (sym (g 0 (omega arith) (λ q. omega (arith, p, q))).is))

  pub rows_beside : (bs : List ℕ) (rows new : List (List ℤ)) (i j : ℕ) → length bs ≡ length rows → length new ≡ length rows → j < length rows → i + j ≡ r → row_in w (row_at new j) ≡ integer_row a P
      → ((k : ℕ) → k < length rows → (i + k ≡ r → ⊥) → IsEliminated limit c a most P (row_in w (row_at rows k)) (row_in w (row_at new k)))
      → whole_rows_after c e r a P i (beside_basics bs (integer_rows_in w rows)) ≡ beside_basics (set bs j e) (integer_rows_in w new)
  unfolding whole_rows_after
  rows_beside [] rows new i j s m low p is g = absurd (omega (arith, s, low))
  rows_beside (b ∷ bs) [] new i j s m low p is g = absurd (omega (arith, s))
  rows_beside (b ∷ bs) (x ∷ rows) [] i j s m low p is g = absurd (omega (arith, m))
  rows_beside (b ∷ bs) (x ∷ rows) (y ∷ new) i zero s m low p is g =
      let t = eq-eqb i r (omega (arith, p)) in
      let later = past bs rows new (i + 1) (omega (arith, s)) (omega (arith, m)) (omega (arith, p)) (λ k q apart. g (suc k) (omega (arith, q)) (λ e. apart (omega (arith, e)))) in
      rw (t, later) (ap (λ (l : IntegerRow). whole_row e l ∷ beside_basics bs (integer_rows_in w new)) (sym is))
  rows_beside (b ∷ bs) (x ∷ rows) (y ∷ new) i (suc j) s m low p is g =
      let t = ne_eqb i r (λ q. omega (arith, p, q)) in
      let later = rows_beside bs rows new (i + 1) j (omega (arith, s)) (omega (arith, m)) (omega (arith, low)) (omega (arith, p)) is (λ k q apart. g (suc k) (omega (arith, q)) (λ e. apart (omega (arith, e)))) in
      rw (t, later) (ap (λ (l : IntegerRow). whole_row b l ∷ beside_basics (set bs j e) (integer_rows_in w new)) (sym (g 0 (omega arith) (λ q. omega (arith, p, q))).is))

-- ---- the table after a pivot
abbrev pub table_with : ℕ → List ℕ → List WholeRow → IntegerRow → IntegerTable
table_with columns labels rows objective = record { columns = columns; labels = labels; rows = rows; objective = objective }

-- the row of the table at r
pub row_there : (labels basics : List ℕ) (rows : List (List ℤ)) (r : ℕ) → length basics ≡ length rows → r < length rows → integer_row_at (beside_basics basics (integer_rows_in (length labels + 1) rows)) r ≡ row_in (length labels + 1) (row_at rows r)
row_there labels basics rows r same low =
    row_beside basics (integer_rows_in (length labels + 1) rows) r (same ∙ sym (length-map rows (row_in (length labels + 1)))) ∙ row_place (length labels + 1) rows r no_integer_row low

abbrev pub leaving_integer_row : List ℕ → List (List ℤ) → ℕ → IntegerRow
leaving_integer_row labels rows r = cut (row_in (length labels + 1) (row_at rows r))

pub pivoted_table : (limit : ℕ) (labels basics : List ℕ) (rows new : List (List ℤ)) (objective last : List ℤ) (c r : ℕ) → length basics ≡ length rows → r < length rows → IsPivoted limit (length labels + 1) c r (leaving_integer_row labels rows r) rows objective new last
    → table_of (set labels c (get_or basics r 0)) (set basics r (get_or labels c 0)) new last ≡ whole_pivoted c r (table_of labels basics rows objective)
unfolding whole_pivoted
pivoted_table limit labels basics rows new objective last c r same low t =
    (λ i. table_with (columns i) (set labels c (get_or basics r 0)) (rows_are i) (last_is i)) ∙ sym (λ i. by (cut (row_there labels basics rows r same low i)) (basic i))
  where
    by : IntegerRow → ℕ → IntegerTable
    by x u =
        table_with (length labels + length basics) (set labels c u) (whole_rows_after c (get_or labels c 0) r (unsigned_abs (number_at x.numbers c)) (exchanged_in c x) 0 (beside_basics basics (integer_rows_in (length labels + 1) rows)))
        (row_eliminated c (unsigned_abs (number_at x.numbers c)) (exchanged_in c x) (row_in (length labels + 1) objective))

    wide : length (set labels c (get_or basics r 0)) ≡ length labels
    wide = length-set labels c (get_or basics r 0)

    basic : basic_of (beside_basics basics (integer_rows_in (length labels + 1) rows)) r ≡ get_or basics r 0
    basic = basic_beside basics (integer_rows_in (length labels + 1) rows) r (same ∙ sym (length-map rows (row_in (length labels + 1))))

    columns : length (set labels c (get_or basics r 0)) + length (set basics r (get_or labels c 0)) ≡ length labels + length basics
    columns = omega (arith, wide, length-set basics r (get_or labels c 0))

    rows_are : beside_basics (set basics r (get_or labels c 0)) (integer_rows_in (length (set labels c (get_or basics r 0)) + 1) new)
        ≡ whole_rows_after c (get_or labels c 0) r (unsigned_abs (number_at (leaving_integer_row labels rows r).numbers c)) (exchanged_in c (leaving_integer_row labels rows r)) 0 (beside_basics basics (integer_rows_in (length labels + 1) rows))
    rows_are =
        ap (λ k. beside_basics (set basics r (get_or labels c 0)) (integer_rows_in (k + 1) new)) wide
        ∙ sym (rows_beside limit (length labels + 1) c (get_or labels c 0) r _ (row_size (leaving_integer_row labels rows r)) (exchanged_in c (leaving_integer_row labels rows r)) basics rows new 0 r same t.count low (omega arith) t.pivot (λ i p apart. t.rows i p (λ e. apart (omega (arith, e)))))

    last_is : row_in (length (set labels c (get_or basics r 0)) + 1) last
        ≡ row_eliminated c (unsigned_abs (number_at (leaving_integer_row labels rows r).numbers c)) (exchanged_in c (leaving_integer_row labels rows r)) (row_in (length labels + 1) objective)
    last_is = ap (λ k. row_in (k + 1) last) wide ∙ t.objective.is

-- each step of the other rows, and so all
pub rows_steps_in : (limit w e r i : ℕ) (pivot : IntegerRow) (bs : List ℕ) (rows : List (List ℤ)) → ((j : ℕ) → j < length rows → (i + j ≡ r → ⊥) → steps_within limit e pivot (row_in w (row_at rows j)) ≡ true) → rows_steps_within limit e r pivot i (beside_basics bs (integer_rows_in w rows)) ≡ true
unfolding rows_steps_within
rows_steps_in limit w e r i pivot [] rows g = refl
rows_steps_in limit w e r i pivot (v ∷ bs) [] g = refl
rows_steps_in limit w e r i pivot (v ∷ bs) (x ∷ rows) g =
    and_from (row_steps_within limit e r pivot i (row_in w x)) (rows_steps_within limit e r pivot (i + 1) (beside_basics bs (integer_rows_in w rows)))
    (step (nat_eq i r) refl) (rows_steps_in limit w e r (i + 1) pivot bs rows (λ j q apart. g (suc j) (omega (arith, q)) (λ same. apart (omega (arith, same)))))
  where
    step : (same : Bool) → nat_eq i r ≡ same → (if same then true else steps_within limit e pivot (row_in w x)) ≡ true
    step true t = refl
    step false t = g 0 (omega arith) (λ same. let test = eq-eqb i r (omega (arith, same)) in cc)

-- each step is within the limit
pub pivoted_steps : (limit : ℕ) (labels basics : List ℕ) (rows new : List (List ℤ)) (objective last : List ℤ) (c r : ℕ) → length basics ≡ length rows → r < length rows → IsPivoted limit (length labels + 1) c r (leaving_integer_row labels rows r) rows objective new last
    → table_steps_within limit c r (row_in (length labels + 1) objective) (beside_basics basics (integer_rows_in (length labels + 1) rows)) ≡ true
pivoted_steps limit labels basics rows new objective last c r same low t =
    let w = length labels + 1 in
    let all = beside_basics basics (integer_rows_in w rows) in
    let l = leaving_integer_row labels rows r in
    let each = rows_steps_in limit w c r 0 l basics rows (λ i p apart. le-leb _ limit (t.rows i p (λ e. apart (omega (arith, e)))).fits) in
    subst (λ (x : IntegerRow). (steps_within limit c (cut x) (row_in (length labels + 1) objective) && rows_steps_within limit c r (cut x) 0 (beside_basics basics (integer_rows_in (length labels + 1) rows))) ≡ true)
    (sym (row_there labels basics rows r same low)) (and_from (steps_within limit c l (row_in w objective)) (rows_steps_within limit c r l 0 all) (le-leb _ limit t.objective.fits) each)

-- ---- a pivot by its leaving row
pub pivot_none : (c : ℕ) (t : IntegerTable) → best_with None (whole_ratios (length t.labels) c 0 t.rows) ≡ None → whole_pivot c t ≡ None
unfolding whole_pivot
pivot_none c t h = step (whole_ratios (length t.labels) c 0 t.rows) h
  where
    step : (qs : List Ratio) → best_with None qs ≡ None → whole_leave c t qs ≡ None
    step [] k = refl
    step (q ∷ qs) k = absurd cc

pub pivot_moves : (c r : ℕ) (t : IntegerTable) → best_with None (whole_ratios (length t.labels) c 0 t.rows) ≡ Some r → whole_pivot c t ≡ Some (whole_pivoted c r t)
unfolding whole_pivot
pivot_moves c r t h = step (whole_ratios (length t.labels) c 0 t.rows) h
  where
    step : (qs : List Ratio) → best_with None qs ≡ Some r → whole_leave c t qs ≡ Some (whole_pivoted c r t)
    step [] k = absurd cc
    step (q ∷ qs) k = let place : (least q qs).place ≡ r = cc in rw place refl

pub pivot_has_fit : (limit c r : ℕ) (t : IntegerTable) → best_with None (whole_ratios (length t.labels) c 0 t.rows) ≡ Some r → table_steps_within limit c r t.objective t.rows ≡ true → pivot_fits limit c t ≡ true
unfolding pivot_fits
pivot_has_fit limit c r t h fits = step (whole_ratios (length t.labels) c 0 t.rows) h
  where
    step : (qs : List Ratio) → best_with None qs ≡ Some r → leaving_fits limit c t.objective t.rows qs ≡ true
    step [] k = absurd cc
    step (q ∷ qs) k = let place : (least q qs).place ≡ r = cc in rw place fits

pub pivot_there : (c r : ℕ) (labels basics : List ℕ) (rows : List (List ℤ)) → c < length labels → length basics ≡ length rows
    → best_with None (whole_ratios (length labels) c 0 (beside_basics basics (integer_rows_in (length labels + 1) rows))) ≡ Some r → IsPivot (length labels + 1) c r rows
pivot_there c r labels basics rows column same h = step (whole_ratios (length labels) c 0 all) (candidates (length labels) c 0 all) h
  where
    all : List WholeRow
    all = beside_basics basics (integer_rows_in (length labels + 1) rows)

    count : length basics ≡ length (integer_rows_in (length labels + 1) rows)
    count = same ∙ sym (length-map rows (row_in (length labels + 1)))

    many : length (beside_basics basics (integer_rows_in (length labels + 1) rows)) ≡ length rows
    many = length-beside basics (integer_rows_in (length labels + 1) rows) count ∙ length-map rows (row_in (length labels + 1))

    step : (qs : List Ratio) → AllOf (IsCandidate c 0 (beside_basics basics (integer_rows_in (length labels + 1) rows))) qs → best_with None qs ≡ Some r → IsPivot (length labels + 1) c r rows
    step [] g k = absurd cc
    step (q ∷ qs) g k =
        let place : (least q qs).place ≡ r = cc in
        let there = subst (λ i. Leaves c i (beside_basics basics (integer_rows_in (length labels + 1) rows))) place (leaves c (beside_basics basics (integer_rows_in (length labels + 1) rows)) q qs g) in
        let low : r < length rows = (let p = there.inside in omega (arith, p, many)) in
        let line = row_beside basics (integer_rows_in (length labels + 1) rows) r count ∙ row_place (length labels + 1) rows r no_integer_row low in
        record { column = omega (arith, column); row = low; above = subst (λ (l : IntegerRow). int_lt (pos 0) (number_at l.numbers c) ≡ true) line there.above }

-- ---- within the limit
pub rows_fit_in : (b w : ℕ) (bs : List ℕ) (rows : List (List ℤ)) → AreRowsIn b w rows → rows_fit b (beside_basics bs (integer_rows_in w rows)) ≡ true
unfolding rows_fit
rows_fit_in b w [] rows g = refl
rows_fit_in b w (v ∷ bs) [] g = refl
rows_fit_in b w (v ∷ bs) (x ∷ rows) g =
    let first = row_of_sizes b w (row_in w x) (g 0 (omega arith)) in
    let later = rows_fit_in b w bs rows (λ i p. g (suc i) (omega (arith, p))) in
    rw (first, later) refl
