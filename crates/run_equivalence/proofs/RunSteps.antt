-- The run over rows of whole numbers, and the run over fractions.
use Rattle.std.proofs.Common.{◌≡◌, ℕ, zero, suc, ◌+◌, ◌*◌, ◌/◌, ◌<◌, List, [], ◌∷◌, length, map, arith, refl, sym, ◌∙◌, ap, subst, ℤ, pos, neg_ℤ, Bool, true, false, ◌&&◌, nat_eq}
use Rattle.std.specs.Prelude.{Option, Some, None, if◌then◌else◌}
use Rattle.std.specs.Int.{◌∣◌}
use Rattle.std.proofs.lemmas.Bool.{and_parts}
use Rattle.std.proofs.lemmas.List.{length-map}
use Rattle.std.proofs.Math.Nat.{mul-pos, dvd_trans, dvd-mul_right, dvd-mul_left, div-mul_cancel}
use Rattle.arithmetic.specs.Gcd.{gcd}
use Rattle.arithmetic.proofs.GcdLaws.{gcd_dvd_left, gcd_dvd_right, gcd_pos_left, pos_of_quotient}
use Rattle.exact_num.specs.Fraction.{Fraction, IsLowest, whole, reduced, negated}
use Rattle.exact_num.specs.CommonDenominator.{amount_over, signed_amounts_over}
use Rattle.exact_num.proofs.Fractions.{amount_is_exact}
use Rattle.simplex_run.proofs.Listed.{listed_alike}
use Rattle.simplex_run.specs.Places.{at}
use Rattle.simplex_run.specs.Program.{LinearProgram}
use Rattle.simplex_run.specs.Table.{Row, Table, row_of, with_right, entries_at, entry_for, no_entry, right_side, where_basic, first_table}
use Rattle.simplex_run.specs.Choice.{Column, entering}
use Rattle.simplex_run.specs.Ending.{Ending, done, unbounded, wide_at, no_unit_left, HasNoMisfit}
use Rattle.simplex_run.specs.Run.{Optimum, optimum, moved, unlimited, pivoted, on_entering, on_pivot, solution, reduced_cost_of, read_off, direction, run_from, run}
use Rattle.simplex_run.specs.Pivots.{table_after}
use Rattle.simplex_run.specs.Optimum.{IsProgram}
use Rattle.simplex_run.proofs.Entries.{IsTable}
use Rattle.simplex_run.proofs.FirstTable.{first_is_table}
use Rattle.run_equivalence.specs.IntegerRows.{AreIntegerRows, IsShaped, IsWithin, WholeRow, IntegerTable, number_at, entry_of, fractions_over, fractions_of, row_for, table_for, multiple, least_multiple, taken_in, row_taken_in, table_taken_in, rows_fit}
use Rattle.run_equivalence.specs.WholePivoting.{whole_entering, whole_pivot, pivot_fits}
use Rattle.run_equivalence.specs.WholeRunning.{whole_where_basic, none_of, whole_reduced_cost, whole_solution, whole_read_off, whole_direction, on_column, on_whole_pivot, whole_run_from, first_whole_table, whole_run, within, within_moved, whole_moved_by, next_whole_table, whole_table_after}
use Rattle.run_equivalence.specs.WholeLaws.{as_pivot, or_fractions, EitherWayTheSame, TablesAgree, RunsAgree, NoStepMisfits, TablesStand, BoundsInUse}
use Rattle.run_equivalence.proofs.Multiples.{is_reduced, reduced_negated}
use Rattle.run_equivalence.proofs.IntegerRowSteps.{reduced_zero, fraction_at}
use Rattle.run_equivalence.proofs.PivotSteps.{AreShaped, IsWhole, within_of_fit, entering_same, entering_inside, pivots_agree, unlimited_fits, turned_whole}

-- ---- reading off
pub where_same : (bound n : ℕ) (f : Row → Fraction) (g : WholeRow → Fraction) (j : ℕ) (rows : List WholeRow) → ((row : WholeRow) → 0 < row.line.denominator → f (row_for row) ≡ g row) → AreIntegerRows bound n rows → where_basic f j (map row_for rows) ≡ whole_where_basic g j rows
unfolding where_basic whole_where_basic
where_same bound n f g j [] h s = refl
where_same bound n f g j (row ∷ rows) h s =
    let first = h row s.0.positive in
    let later = where_same bound n f g j rows h s.1 in
    rw (first, later) refl

entry_number : (d : ℕ) (ls : List ℕ) (zs : List ℤ) (j : ℕ) → 0 < d → entry_for no_entry ls (fractions_over d zs) j ≡ reduced (entry_for none_of ls zs j) d
unfolding entry_for fractions_over
entry_number d [] zs j p = sym (reduced_zero d p)
entry_number d (v ∷ vs) [] j p = sym (reduced_zero d p)
entry_number d (v ∷ vs) (z ∷ zs) j p = ap (λ w. if nat_eq v j then reduced z d else w) (entry_number d vs zs j p) ∙ step (nat_eq v j)
  where
    step : (b : Bool) → (if b then reduced z d else reduced (entry_for none_of vs zs j) d) ≡ reduced (if b then z else entry_for none_of vs zs j) d
    step true = refl
    step false = refl

price_same : (limit k : ℕ) (t : IntegerTable) (j : ℕ) → IsWithin limit k t → reduced_cost_of (table_for t) j ≡ whole_reduced_cost t j
price_same limit k t j g = entry_number t.objective.denominator (with_right t.columns t.labels) t.objective.numbers j g.objective.positive

read_same : (limit k n m : ℕ) (t : IntegerTable) (spent : ℕ) → IsWithin limit k t → read_off n m (table_for t) spent ≡ whole_read_off n m t spent
unfolding read_off whole_read_off
read_same limit k n m t spent g =
    let last : ℕ = length t.labels in
    let x : solution n (table_for t) ≡ whole_solution n t = listed_alike (λ j. where_basic (λ row. right_side last row.entries) j (map row_for t.rows)) (λ j. whole_where_basic (λ row. entry_of row.line last) j t.rows) 0 n
    (λ j. where_same limit (suc k) (λ row. right_side last row.entries) (λ row. entry_of row.line last) j t.rows (λ row p. fraction_at row.line.denominator row.line.numbers last p) g.rows) in
    let y = listed_alike (reduced_cost_of (table_for t)) (whole_reduced_cost t) n m (λ j. price_same limit k t j g) in
    let r = listed_alike (reduced_cost_of (table_for t)) (whole_reduced_cost t) 0 n (λ j. price_same limit k t j g) in
    let v : at (fractions_of t.objective) last ≡ entry_of t.objective last = fraction_at t.objective.denominator t.objective.numbers last g.objective.positive in
    λ i. done (optimum (x i) (y i) (r i) (v i)) spent

direction_same : (limit k n : ℕ) (t : IntegerTable) (c : Column) → IsWithin limit k t → direction n c (table_for t) ≡ whole_direction n c t
unfolding direction whole_direction
direction_same limit k n t c g =
    listed_alike (λ j. if nat_eq j c.label then whole (pos 1) else where_basic (λ row. negated (at row.entries c.place)) j (map row_for t.rows))
    (λ j. if nat_eq j c.label then whole (pos 1) else whole_where_basic (λ row. reduced (neg_ℤ (number_at row.line.numbers c.place)) row.line.denominator) j t.rows) 0 n
    (λ j. ap (λ v. if nat_eq j c.label then whole (pos 1) else v)
    (where_same limit (suc k) (λ row. negated (at row.entries c.place)) (λ row. reduced (neg_ℤ (number_at row.line.numbers c.place)) row.line.denominator) j t.rows
    (λ row p. ap negated (fraction_at row.line.denominator row.line.numbers c.place p) ∙ reduced_negated (number_at row.line.numbers c.place) row.line.denominator p) g.rows))

-- ---- fractions taken in
abbrev pub AllLowest : List Fraction → Type 0
AllLowest [] = Unit {0}
AllLowest (f ∷ fs) = IsLowest f × AllLowest fs

pub all_lowest : (fs : List Fraction) → ((j : ℕ) → IsLowest (at fs j)) → AllLowest fs
all_lowest [] h = tt
all_lowest (f ∷ fs) h = (h 0, all_lowest fs (λ j. h (suc j)))

left_divides : (a b : ℕ) → a ∣ multiple a b
left_divides a b = dvd-mul_right a (b / gcd a b)

right_divides : (a b : ℕ) → b ∣ multiple a b
right_divides a b =
    let g = gcd a b in
    let ea : a / g * g ≡ a = div-mul_cancel g (gcd_dvd_left a b) in
    let eb : b / g * g ≡ b = div-mul_cancel g (gcd_dvd_right a b) in
    let same : a / g * b ≡ multiple a b = omega (arith, ap (λ w. a / g * w) eb, ap (λ w. w * (b / g)) ea) in
    subst (λ (w : ℕ). b ∣ w) same (dvd-mul_left b (a / g))

multiple_positive : (a b : ℕ) → 0 < a → 0 < b → 0 < multiple a b
multiple_positive a b p q = mul-pos p (pos_of_quotient b (gcd a b) q (gcd_pos_left a b p) (gcd_dvd_right a b))

least_positive : (fs : List Fraction) → AllLowest fs → 0 < least_multiple fs
unfolding least_multiple
least_positive [] h = omega arith
least_positive (f ∷ fs) h = multiple_positive f.denominator (least_multiple fs) h.0.positive (least_positive fs h.1)

abbrev AllDivide : ℕ → List Fraction → Type 0
AllDivide D [] = Unit {0}
AllDivide D (f ∷ fs) = (f.denominator ∣ D) × AllDivide D fs

divide_more : (D E : ℕ) (fs : List Fraction) → D ∣ E → AllDivide D fs → AllDivide E fs
divide_more D E [] h k = tt
divide_more D E (f ∷ fs) h k = (dvd_trans f.denominator k.0 h, divide_more D E fs h k.1)

all_divide : (fs : List Fraction) → AllDivide (least_multiple fs) fs
unfolding least_multiple
all_divide [] = tt
all_divide (f ∷ fs) = (left_divides f.denominator (least_multiple fs), divide_more (least_multiple fs) (multiple f.denominator (least_multiple fs)) fs (right_divides f.denominator (least_multiple fs)) (all_divide fs))

amounts_same : (D : ℕ) (fs : List Fraction) → 0 < D → AllLowest fs → AllDivide D fs → fractions_over D (signed_amounts_over D fs) ≡ fs
unfolding fractions_over
amounts_same D [] p h k = refl
amounts_same D (f ∷ fs) p h k =
    let first : reduced (amount_over D f) D ≡ f = sym (is_reduced f (amount_over D f) D h.0 p (amount_is_exact D f k.0)) in
    let others = amounts_same D fs p h.1 k.1 in
    λ i. first i ∷ others i

pub taken_same : (fs : List Fraction) → AllLowest fs → fractions_of (taken_in fs) ≡ fs
taken_same fs h = amounts_same (least_multiple fs) fs (least_positive fs h) h (all_divide fs)

pub taken_shaped : (n : ℕ) (fs : List Fraction) → AllLowest fs → length fs ≡ n → IsShaped n (taken_in fs)
taken_shaped n fs h wide = record { positive = least_positive fs h; count = length-map fs (amount_over (least_multiple fs)) ∙ wide }

-- rows of n fractions in lowest terms
abbrev AreFine : ℕ → List Row → Type 0
AreFine n [] = Unit {0}
AreFine n (row ∷ rows) = (AllLowest row.entries × (length row.entries ≡ n)) × AreFine n rows

fine_rows : (n : ℕ) (rows : List Row) → ((i j : ℕ) → IsLowest (at (entries_at rows i) j)) → ((i : ℕ) → i < length rows → length (entries_at rows i) ≡ n) → AreFine n rows
fine_rows n [] low wide = tt
fine_rows n (row ∷ rows) low wide = ((all_lowest row.entries (low 0), wide 0 (omega arith)), fine_rows n rows (λ i. low (suc i)) (λ i p. wide (suc i) (omega (arith, p))))

rows_same : (n : ℕ) (rows : List Row) → AreFine n rows → map row_for (map row_taken_in rows) ≡ rows
rows_same n [] h = refl
rows_same n (row ∷ rows) h =
    let first = taken_same row.entries h.0.0 in
    let others = rows_same n rows h.1 in
    λ i. row_of row.basic (first i) ∷ others i

rows_are_shaped : (n : ℕ) (rows : List Row) → AreFine n rows → AreShaped n (map row_taken_in rows)
rows_are_shaped n [] h = tt
rows_are_shaped n (row ∷ rows) h = (taken_shaped n row.entries h.0.0 h.0.1, rows_are_shaped n rows h.1)

table_same : (n m : ℕ) (t : Table) → IsTable n m t → table_for (table_taken_in t) ≡ t
table_same n m t g =
    let rows = rows_same (suc n) t.rows (fine_rows (suc n) t.rows g.lowest (λ i p. g.widths i (omega (arith, p, g.count)))) in
    let objective = taken_same t.objective (all_lowest t.objective g.lowest_price) in
    λ i. record { columns = t.columns; labels = t.labels; rows = rows i; objective = objective i }

table_whole : (n m : ℕ) (t : Table) → IsTable n m t → IsWhole n (table_taken_in t)
table_whole n m t g =
    record {
      labels = g.labels;
      rows = rows_are_shaped (suc n) t.rows (fine_rows (suc n) t.rows g.lowest (λ i p. g.widths i (omega (arith, p, g.count))));
      objective = taken_shaped (suc n) t.objective (all_lowest t.objective g.lowest_price) g.width;
    }

pub first_same : (p : LinearProgram) → IsProgram p → table_for (first_whole_table p) ≡ first_table p
unfolding first_whole_table
first_same p g = table_same p.variables p.rows (first_table p) (first_is_table p g)

pub first_whole : (p : LinearProgram) → IsProgram p → IsWhole p.variables (first_whole_table p)
unfolding first_whole_table
first_whole p g = table_whole p.variables p.rows (first_table p) (first_is_table p g)

-- ---- the run
run_same : (limit k n m left spent : ℕ) (w : IntegerTable) (end : Ending Optimum) → IsWithin limit k w
    → whole_run_from limit n m left spent w ≡ Some end → run_from limit n m left spent (table_for w) ≡ end
unfolding run_from whole_run_from
run_same limit k n m zero spent w end g h = rw (← (entering_same w g.objective.positive)) (step (whole_entering w) h)
  where
    step : (o : Option Column) → on_column o (Some (whole_read_off n m w spent)) (λ c. Some (no_unit_left spent)) ≡ Some end → on_entering o (read_off n m (table_for w) spent) (λ c. no_unit_left spent) ≡ end
    step None h = read_same limit k n m w spent g ∙ cc
    step (Some c) h = cc
run_same limit k n m (suc left) spent w end g h =
    rw (← (entering_same w g.objective.positive)) (step (whole_entering w) refl (λ u s q. run_same limit k n m left (spent + 1) u end s q) h)
  where
    go : ℕ → IntegerTable → Option (Ending Optimum)
    go c next = if pivot_fits limit c w && rows_fit limit next.rows then whole_run_from limit n m left (spent + 1) next else None

    by_pivot : Column → Ending Optimum
    by_pivot c = on_pivot (pivoted limit c.place (table_for w)) (λ next. run_from limit n m left (spent + 1) next) (unbounded (direction n c (table_for w)) (spent + 1)) (λ w. wide_at (spent + 1) w)

    next_run : (c : Column) (u : IntegerTable) → c.place < k → whole_pivot c.place w ≡ Some u → ((v : IntegerTable) → IsWithin limit k v → whole_run_from limit n m left (spent + 1) v ≡ Some end → run_from limit n m left (spent + 1) (table_for v) ≡ end)
        → (b : Bool) → (pivot_fits limit c.place w && rows_fit limit u.rows) ≡ b → (if b then whole_run_from limit n m left (spent + 1) u else None) ≡ Some end → by_pivot c ≡ end
    next_run c u in_c f later true t q =
        let parts = and_parts (pivot_fits limit c.place w) (rows_fit limit u.rows) t in
        let moves : pivoted limit c.place (table_for w) ≡ moved (table_for u) = pivots_agree limit k c.place w g in_c parts.0 ∙ ap as_pivot f in
        rw moves (later u (within_of_fit limit k u (turned_whole limit k c.place w u g f) parts.1) q)
    next_run c u in_c f later false t q = absurd cc

    act : (c : Column) → c.place < k → ((v : IntegerTable) → IsWithin limit k v → whole_run_from limit n m left (spent + 1) v ≡ Some end → run_from limit n m left (spent + 1) (table_for v) ≡ end)
        → (o : Option IntegerTable) → whole_pivot c.place w ≡ o → on_whole_pivot o (Some (unbounded (whole_direction n c w) (spent + 1))) (go c.place) ≡ Some end → by_pivot c ≡ end
    act c in_c later None f q =
        let stays : pivoted limit c.place (table_for w) ≡ unlimited = pivots_agree limit k c.place w g in_c (unlimited_fits limit c.place w f) ∙ ap as_pivot f in
        rw stays (ap (λ d. unbounded d (spent + 1)) (direction_same limit k n w c g) ∙ cc)
    act c in_c later (Some u) f q = next_run c u in_c f later (pivot_fits limit c.place w && rows_fit limit u.rows) refl q

    step : (o : Option Column) → whole_entering w ≡ o → ((v : IntegerTable) → IsWithin limit k v → whole_run_from limit n m left (spent + 1) v ≡ Some end → run_from limit n m left (spent + 1) (table_for v) ≡ end)
        → on_column o (Some (whole_read_off n m w spent)) (λ c. on_whole_pivot (whole_pivot c.place w) (Some (unbounded (whole_direction n c w) (spent + 1))) (go c.place)) ≡ Some end
        → on_entering o (read_off n m (table_for w) spent) by_pivot ≡ end
    step None f later h = read_same limit k n m w spent g ∙ cc
    step (Some c) f later h = act c (entering_inside k w c g.labels f) later (whole_pivot c.place w) refl h

pub runs_agree : RunsAgree
unfolding run whole_run
runs_agree limit p left spent end g h = step (rows_fit limit (first_whole_table p).rows) refl h
  where
    step : (b : Bool) → rows_fit limit (first_whole_table p).rows ≡ b → (if b then whole_run_from limit p.variables p.rows left spent (first_whole_table p) else None) ≡ Some end → run_from limit p.variables p.rows left spent (first_table p) ≡ end
    step true t q =
        ap (run_from limit p.variables p.rows left spent) (sym (first_same p g))
        ∙ run_same limit p.variables p.variables p.rows left spent (first_whole_table p) end (within_of_fit limit p.variables (first_whole_table p) (first_whole p g) t) q
    step false t q = absurd cc

-- a run that is not given up ends with no misfit
no_misfit_from : (limit n m left spent : ℕ) (w : IntegerTable) (end : Ending Optimum) → whole_run_from limit n m left spent w ≡ Some end → HasNoMisfit end
unfolding whole_run_from whole_read_off
no_misfit_from limit n m zero spent w end h = step (whole_entering w) h
  where
    step : (o : Option Column) → on_column o (Some (whole_read_off n m w spent)) (λ c. Some (no_unit_left spent)) ≡ Some end → HasNoMisfit end
    step None h = let q : whole_read_off n m w spent ≡ end = cc in subst HasNoMisfit q tt
    step (Some c) h = let q : no_unit_left spent ≡ end = cc in subst HasNoMisfit q tt
no_misfit_from limit n m (suc left) spent w end h = step (whole_entering w) (λ u q. no_misfit_from limit n m left (spent + 1) u end q) h
  where
    go : ℕ → IntegerTable → Option (Ending Optimum)
    go e next = if pivot_fits limit e w && rows_fit limit next.rows then whole_run_from limit n m left (spent + 1) next else None

    next_run : (u : IntegerTable) → (b : Bool) → (whole_run_from limit n m left (spent + 1) u ≡ Some end → HasNoMisfit end) → (if b then whole_run_from limit n m left (spent + 1) u else None) ≡ Some end → HasNoMisfit end
    next_run u true later q = later q
    next_run u false later q = absurd cc

    act : (c : Column) → ((v : IntegerTable) → whole_run_from limit n m left (spent + 1) v ≡ Some end → HasNoMisfit end) → (o : Option IntegerTable) → on_whole_pivot o (Some (unbounded (whole_direction n c w) (spent + 1))) (go c.place) ≡ Some end → HasNoMisfit end
    act c later None q = let s : unbounded (whole_direction n c w) (spent + 1) ≡ end = cc in subst HasNoMisfit s tt
    act c later (Some u) q = next_run u (pivot_fits limit c.place w && rows_fit limit u.rows) (later u) q

    step : (o : Option Column) → ((v : IntegerTable) → whole_run_from limit n m left (spent + 1) v ≡ Some end → HasNoMisfit end)
        → on_column o (Some (whole_read_off n m w spent)) (λ c. on_whole_pivot (whole_pivot c.place w) (Some (unbounded (whole_direction n c w) (spent + 1))) (go c.place)) ≡ Some end → HasNoMisfit end
    step None later h = let q : whole_read_off n m w spent ≡ end = cc in subst HasNoMisfit q tt
    step (Some c) later h = act c later (whole_pivot c.place w) h

no_misfit : (limit : ℕ) (p : LinearProgram) (left spent : ℕ) (end : Ending Optimum) → whole_run limit p left spent ≡ Some end → HasNoMisfit end
unfolding whole_run
no_misfit limit p left spent end h = step (rows_fit limit (first_whole_table p).rows) h
  where
    step : (b : Bool) → (if b then whole_run_from limit p.variables p.rows left spent (first_whole_table p) else None) ≡ Some end → HasNoMisfit end
    step true q = no_misfit_from limit p.variables p.rows left spent (first_whole_table p) end q
    step false q = absurd cc

pub no_step_misfits : NoStepMisfits
no_step_misfits limit p left spent end g h = subst HasNoMisfit (sym (runs_agree limit p left spent end g h)) (no_misfit limit p left spent end h)

pub either_way_the_same : EitherWayTheSame
either_way_the_same limit p left spent g = step (whole_run limit p left spent) refl
  where
    step : (o : Option (Ending Optimum)) → whole_run limit p left spent ≡ o → or_fractions o (run limit p left spent) ≡ run limit p left spent
    step None h = refl
    step (Some end) h = sym (runs_agree limit p left spent end g h)

-- ---- the tables
-- a table of the run, and the one that it stands for
pub record IsTableAfter (limit n k : ℕ) (p : LinearProgram) (w : IntegerTable) : Type 0 where
  pub inside : IsWithin limit n w
  pub table : table_after limit p k ≡ Some (table_for w)

kept_within : (limit : ℕ) (u w : IntegerTable) → within limit u ≡ Some w → (rows_fit limit u.rows ≡ true) × (u ≡ w)
kept_within limit u w h = step (rows_fit limit u.rows) refl h
  where
    step : (b : Bool) → rows_fit limit u.rows ≡ b → (if b then Some u else None) ≡ Some w → (rows_fit limit u.rows ≡ true) × (u ≡ w)
    step true t q = (t, cc)
    step false t q = absurd cc

tables_stand : (limit : ℕ) (p : LinearProgram) (k : ℕ) (w : IntegerTable) → IsProgram p → whole_table_after limit p k ≡ Some w → IsTableAfter limit p.variables k p w
unfolding whole_table_after table_after
tables_stand limit p zero w g h =
    let c = kept_within limit (first_whole_table p) w h in
    subst (λ (v : IntegerTable). IsTableAfter limit p.variables zero p v) c.1
    (record { inside = within_of_fit limit p.variables (first_whole_table p) (first_whole p g) c.0; table = ap Some (sym (first_same p g)) })
tables_stand limit p (suc k) w g h = step (whole_table_after limit p k) refl (λ u q. tables_stand limit p k u g q) h
  where
    n : ℕ
    n = p.variables

    act : (u : IntegerTable) (c : Column) → IsTableAfter limit n k p u → whole_entering u ≡ Some c → pivot_fits limit c.place u ≡ true → (o : Option IntegerTable) → whole_pivot c.place u ≡ o → within_moved limit o ≡ Some w → IsTableAfter limit n (suc k) p w
    act u c s f fits None t q = absurd cc
    act u c s f fits (Some v) t q =
        let kept = kept_within limit v w q in
        let before = s.table in
        let enters : entering (table_for u) ≡ Some c = sym (entering_same u s.inside.objective.positive) ∙ f in
        let turned : pivoted limit c.place (table_for u) ≡ moved (table_for v) = pivots_agree limit n c.place u s.inside (entering_inside n u c s.inside.labels f) fits ∙ ap as_pivot t in
        subst (λ (v : IntegerTable). IsTableAfter limit n (suc k) p v) kept.1
        (record { inside = within_of_fit limit n v (turned_whole limit n c.place u v s.inside t) kept.0; table = rw (before, enters, turned) refl })

    fitting : (u : IntegerTable) (c : Column) → IsTableAfter limit n k p u → whole_entering u ≡ Some c → (b : Bool) → pivot_fits limit c.place u ≡ b → (if b then within_moved limit (whole_pivot c.place u) else None) ≡ Some w → IsTableAfter limit n (suc k) p w
    fitting u c s f true fits q = act u c s f fits (whole_pivot c.place u) refl q
    fitting u c s f false fits q = absurd cc

    enter : (u : IntegerTable) → IsTableAfter limit n k p u → (o : Option Column) → whole_entering u ≡ o → whole_moved_by limit u o ≡ Some w → IsTableAfter limit n (suc k) p w
    enter u s None f q = absurd cc
    enter u s (Some c) f q = fitting u c s f (pivot_fits limit c.place u) refl q

    step : (o : Option IntegerTable) → whole_table_after limit p k ≡ o → ((u : IntegerTable) → whole_table_after limit p k ≡ Some u → IsTableAfter limit n k p u) → next_whole_table limit o ≡ Some w → IsTableAfter limit n (suc k) p w
    step None f later q = absurd cc
    step (Some u) f later q = enter u (later u f) (whole_entering u) refl q

pub tables_agree : TablesAgree
tables_agree limit p k w g h =
    let s = tables_stand limit p k w g h in
    (entering_same w s.inside.objective.positive, s.table)

pub tables_stand_for : TablesStand
tables_stand_for limit p k w g h = (limit, (tables_stand limit p k w g h).table)

pub bounds_in_use : BoundsInUse
bounds_in_use = record { wide = omega arith; narrow = omega arith; no_more = omega arith }
