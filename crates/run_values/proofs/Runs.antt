-- The numbers of a run of the simplex method, and the step at which it stops.
use Rattle.std.proofs.Common.{◌≡◌, ◌≢◌, ℕ, zero, suc, ◌+◌, ◌*◌, List, [], ◌∷◌, length, map, drop, set, pos, Bool, true, false, nat_eq, refl, arith}
use Rattle.std.specs.Prelude.{Option, Some, None, Result, Ok, Err, if◌then◌else◌, nat_lt}
use Rattle.std.specs.List.{All}
use Rattle.std.proofs.lemmas.List.Elements.{All-nil, All-cons, All-head, All-tail, All-append, All-drop, All-get_or, All-map, All-take, All-weaker}
use Rattle.arithmetic.proofs.Tests.{int_lt-yes}
use Rattle.exact_num.specs.declared.misfit.Wide.{Wide}
use Rattle.exact_num.specs.Fraction.{Fraction, IsLowest, negated, whole}
use Rattle.exact_num.specs.Fits.{after, div_of, mul_of, sub_of}
use Rattle.exact_num.specs.Tests.{is_above_zero}
use Rattle.exact_num.proofs.Rationals.{above_not_zero}
use Rattle.frac.specs.Range.{limit as largest}
use Rattle.simplex_run.specs.Choice.{Ratio, Column, entering, least, ratio_in, ratios}
use Rattle.simplex_run.specs.Ending.{unbounded, wide_at, no_unit_left}
use Rattle.simplex_run.specs.Pivot.{Stop, stop_of, beside, steps_of, told, divided, eliminated, less_product, after_pivot, row_after, rows_after}
use Rattle.simplex_run.specs.Places.{at, fraction_zero}
use Rattle.simplex_run.specs.Program.{LinearProgram, row}
use Rattle.simplex_run.specs.Run.{Optimum, optimum, PivotEnd, moved, unlimited, stopped, direction, leave, moved_or_stopped, on_entering, on_ratios, on_pivot, reduced_cost_of, read_off, run, run_from, pivoted}
use Rattle.simplex_run.specs.Table.{Row, Table, label_at, with_right, entries_at, basic_at, no_entry, first_row, first_table, right_side, row_of, where_basic}
use Rattle.simplex_run.proofs.Choices.{least_limits}
use Rattle.simplex_run.proofs.Entries.{entry_has}
use Rattle.simplex_run.proofs.Ends.{holds_at}
use Rattle.simplex_run.proofs.Listed.{listed_all}
use Rattle.run_values.specs.Values.{AreOperands, AreValues, Ends, IsValue}
use Rattle.run_values.proofs.Masters.{HasValues}
use Rattle.run_values.proofs.Numbers.{Has, Nothing, after_has, div_has, mul_has, negated_value, sub_has, whole_value, zero_value}

-- ---- lists of numbers
pub at_value : (xs : List Fraction) (i : ℕ) → AreValues xs → IsValue (at xs i)
at_value xs i are = holds_at IsValue xs zero_value (λ j inside. All-get_or IsValue xs j fraction_zero inside are) i

-- with one of them set
set_value : (xs : List Fraction) (c : ℕ) (x : Fraction) → IsValue x → AreValues xs → (k : ℕ) → IsValue (at (set xs c x) k)
set_value [] c x v are k = zero_value
set_value (y ∷ xs) zero x v are zero = v
set_value (y ∷ xs) zero x v are (suc k) = at_value xs k (All-tail IsValue y xs are)
set_value (y ∷ xs) (suc c) x v are zero = All-head IsValue y xs are
set_value (y ∷ xs) (suc c) x v are (suc k) = set_value xs c x v (All-tail IsValue y xs are) k

-- the steps of a row
abbrev Stops : Result (List Fraction) Stop → Type 0
Stops (Ok xs) = AreValues xs
Stops (Err s) = AreOperands s.wide

steps_has : (f : ℕ → Result Fraction Wide) → ((k : ℕ) → Has IsValue (f k)) → (k : ℕ) (vs : List ℕ) → Stops (steps_of f k vs)
unfolding steps_of
steps_has f h k [] = All-nil IsValue
steps_has f h k (v ∷ vs) = by (f k) (steps_of f (k + 1) vs) (h k) (steps_has f h (k + 1) vs)
  where
    choose : (w : Wide) (s : Stop) (b : Bool) → AreOperands w → AreOperands s.wide → AreOperands (if b then s else stop_of v w).wide
    choose w s true x y = y
    choose w s false x y = x

    by : (r : Result Fraction Wide) (rs : Result (List Fraction) Stop) → Has IsValue r → Stops rs → Stops (beside v r rs)
    by (Ok x) (Ok xs) here later = All-cons IsValue x xs here later
    by (Ok x) (Err s) here later = later
    by (Err w) (Ok xs) here later = here
    by (Err w) (Err s) here later = choose w s (nat_lt s.label v) here later

told_has : (f : ℕ → Result Fraction Wide) → ((k : ℕ) → Has IsValue (f k)) → (vs : List ℕ) → Has AreValues (told (steps_of f 0 vs))
told_has f h vs = by (steps_of f 0 vs) (steps_has f h 0 vs)
  where
    by : (rs : Result (List Fraction) Stop) → Stops rs → Has AreValues (told rs)
    by (Ok xs) are = are
    by (Err s) are = are

divided_has : (c : ℕ) (labels : List ℕ) (xs : List Fraction) → AreValues xs → (at xs c).numerator ≢ pos 0 → Has AreValues (divided largest c labels xs)
unfolding divided
divided_has c labels xs are some =
    told_has (λ k. div_of largest (at (set xs c (whole (pos 1))) k) (at xs c))
    (λ k. div_has (at (set xs c (whole (pos 1))) k) (at xs c) (set_value xs c (whole (pos 1)) (whole_value (pos 1) (omega arith)) are k) (at_value xs c are) some) labels

cleared_has : (c : ℕ) (labels : List ℕ) (pivot xs : List Fraction) → AreValues pivot → AreValues xs → Has AreValues (eliminated largest c labels pivot xs)
unfolding eliminated
cleared_has c labels pivot xs also are =
    let x : ℕ → Fraction = at (set xs c fraction_zero) in
    told_has (λ k. less_product largest (at xs c) (x k) (at pivot k))
    (λ k. after_has IsValue IsValue (mul_of largest (at xs c) (at pivot k)) (λ product. sub_of largest (x k) product) (mul_has (at xs c) (at pivot k) (at_value xs c are) (at_value pivot k also)) (λ product h. sub_has (x k) product (set_value xs c fraction_zero zero_value are k) h)) labels

-- ---- tables
abbrev IsRowOf : Row → Type 0
IsRowOf row = AreValues row.entries

pub record HasEntries (t : Table) : Type 0 where
  pub rows : All IsRowOf t.rows
  pub objective : AreValues t.objective

row_after_has : (c : ℕ) (labels : List ℕ) (e r : ℕ) (pivot : List Fraction) (i : ℕ) (row : Row) → AreValues pivot → IsRowOf row → Has IsRowOf (row_after largest c labels e r pivot i row)
row_after_has c labels e r pivot i row also are = by (nat_eq i r)
  where
    by : (b : Bool) → Has IsRowOf (if b then Ok (row_of e pivot) else after (eliminated largest c labels pivot row.entries) (λ es. Ok (row_of row.basic es)))
    by true = also
    by false = after_has AreValues IsRowOf (eliminated largest c labels pivot row.entries) (λ es. Ok (row_of row.basic es)) (cleared_has c labels pivot row.entries also are) (λ es vs. vs)

rows_after_has : (c : ℕ) (labels : List ℕ) (e r : ℕ) (pivot : List Fraction) (i : ℕ) (rows : List Row) → AreValues pivot → All IsRowOf rows → Has (All IsRowOf) (rows_after largest c labels e r pivot i rows)
unfolding rows_after
rows_after_has c labels e r pivot i [] also are = All-nil IsRowOf
rows_after_has c labels e r pivot i (row ∷ rows) also are =
    after_has IsRowOf (All IsRowOf) (row_after largest c labels e r pivot i row) _ (row_after_has c labels e r pivot i row also (All-head IsRowOf row rows are))
    (λ first f. after_has (All IsRowOf) (All IsRowOf) (rows_after largest c labels e r pivot (i + 1) rows) _ (rows_after_has c labels e r pivot (i + 1) rows also (All-tail IsRowOf row rows are))
    (λ others os. All-cons IsRowOf first others f os))

entries_are : (rows : List Row) (r : ℕ) → All IsRowOf rows → AreValues (entries_at rows r)
entries_are [] r are = All-nil IsValue
entries_are (row ∷ rows) zero are = All-head IsRowOf row rows are
entries_are (row ∷ rows) (suc r) are = entries_are rows r (All-tail IsRowOf row rows are)

pivoted_has : (c r : ℕ) (t : Table) → HasEntries t → (at (entries_at t.rows r) c).numerator ≢ pos 0 → Has HasEntries (after_pivot largest c r t)
unfolding after_pivot
pivoted_has c r t has some =
    let labels = with_right t.columns (set t.labels c (basic_at t.rows r)) in
    let e = label_at t.labels c in
    after_has AreValues HasEntries (divided largest c labels (entries_at t.rows r)) _ (divided_has c labels (entries_at t.rows r) (entries_are t.rows r has.rows) some)
    (λ pivot p. after_has (All IsRowOf) HasEntries (rows_after largest c labels e r pivot 0 t.rows) _ (rows_after_has c labels e r pivot 0 t.rows p has.rows)
    (λ rows rs. after_has AreValues HasEntries (eliminated largest c labels pivot t.objective) _ (cleared_has c labels pivot t.objective p has.objective)
    (λ objective o. record { rows = rs; objective = o })))

-- ---- a pivoted

ratio_has : (columns e : ℕ) (entries : List Fraction) → AreValues entries → Has Nothing (ratio_in largest columns e entries)
unfolding ratio_in
ratio_has columns e entries are = by (is_above_zero (at entries e)) refl
  where
    by : (b : Bool) → is_above_zero (at entries e) ≡ b → Has Nothing (if b then after (div_of largest (right_side columns entries) (at entries e)) (λ q. Ok (Some q)) else Ok None)
    by true above =
        after_has IsValue Nothing (div_of largest (right_side columns entries) (at entries e)) (λ q. Ok (Some q))
        (div_has (right_side columns entries) (at entries e) (at_value entries columns are) (at_value entries e are) (above_not_zero (at entries e).numerator (int_lt-yes (pos 0) (at entries e).numerator above)))
        (λ q h. tt)
    by false below = tt

ratios_has : (columns e i : ℕ) (rows : List Row) → All IsRowOf rows → Has Nothing (ratios largest columns e i rows)
unfolding ratios
ratios_has columns e i [] are = tt
ratios_has columns e i (row ∷ rows) are =
    after_has Nothing Nothing (ratio_in largest columns e row.entries) _ (ratio_has columns e row.entries (All-head IsRowOf row rows are))
    (λ q h. after_has Nothing Nothing (ratios largest columns e (i + 1) rows) _ (ratios_has columns e (i + 1) rows (All-tail IsRowOf row rows are)) (λ qs hs. tt))

abbrev Turns : PivotEnd → Type 0
Turns (moved t) = HasEntries t
Turns unlimited = Unit {0}
Turns (stopped w) = AreOperands w

turn_has : (e : ℕ) (t : Table) → HasEntries t → Turns (pivoted largest e t)
unfolding pivoted
turn_has e t has = by (ratios largest (length t.labels) e 0 t.rows) refl (ratios_has (length t.labels) e 0 t.rows has.rows)
  where
    pivots : (r : Result Table Wide) → Has HasEntries r → Turns (moved_or_stopped r)
    pivots (Ok next) h = h
    pivots (Err w) h = h

    low : (k j : ℕ) → IsLowest (at (entries_at t.rows k) j)
    low k j = (at_value (entries_at t.rows k) j (entries_are t.rows k has.rows)).lowest

    by : (r : Result (List Ratio) Wide) → ratios largest (length t.labels) e 0 t.rows ≡ r → Has Nothing r → Turns (on_ratios r (λ qs. leave largest e t qs))
    by (Ok []) is h = tt
    by (Ok (q ∷ qs)) is h =
        let limits = least_limits largest (length t.labels) e t.rows q qs low is in
        pivots (after_pivot largest e (least q qs).place t) (pivoted_has e (least q qs).place t has (above_not_zero _ limits.1))
    by (Err w) is h = h

-- ---- what is read off
abbrev pub IsOptimumOf : Optimum → Type 0
IsOptimumOf (optimum x y reduced value) = AreValues x × AreValues y × AreValues reduced × IsValue value

basic_value : (f : Row → Fraction) (j : ℕ) (rows : List Row) → ((row : Row) → IsRowOf row → IsValue (f row)) → All IsRowOf rows → IsValue (where_basic f j rows)
unfolding where_basic
basic_value f j [] h are = zero_value
basic_value f j (row ∷ rows) h are = by (nat_eq row.basic j) (basic_value f j rows h (All-tail IsRowOf row rows are))
  where
    by : (b : Bool) → IsValue (where_basic f j rows) → IsValue (if b then f row else where_basic f j rows)
    by true later = h row (All-head IsRowOf row rows are)
    by false later = later

read_has : (n m : ℕ) (t : Table) (spent : ℕ) → HasEntries t → Ends IsOptimumOf (read_off n m t spent)
unfolding read_off
read_has n m t spent has =
    let w = length t.labels in
    let solved = listed_all IsValue _ (λ j. basic_value (λ row. right_side w row.entries) j t.rows (λ row are. at_value row.entries w are) has.rows) 0 n in
    let prices = listed_all IsValue (reduced_cost_of t) (λ j. entry_has IsValue no_entry (with_right t.columns t.labels) t.objective j zero_value (λ k. at_value t.objective k has.objective)) in
    (solved, prices n m, prices 0 n, at_value t.objective w has.objective)

-- ---- the run
run_from_has : (n m left spent : ℕ) (t : Table) → HasEntries t → Ends IsOptimumOf (run_from largest n m left spent t)
unfolding run_from
run_from_has n m zero spent t has = by (entering t)
  where
    by : (o : Option Column) → Ends IsOptimumOf (on_entering o (read_off n m t spent) (λ c. no_unit_left spent))
    by None = read_has n m t spent has
    by (Some c) = tt
run_from_has n m (suc left) spent t has = by (entering t) (λ u h. run_from_has n m left (spent + 1) u h)
  where
    act : (c : Column) (w : PivotEnd) → Turns w → ((u : Table) → HasEntries u → Ends IsOptimumOf (run_from largest n m left (spent + 1) u))
        → Ends IsOptimumOf (on_pivot w (λ next. run_from largest n m left (spent + 1) next) (unbounded (direction n c t) (spent + 1)) (λ w. wide_at (spent + 1) w))
    act c (moved u) h later = later u h
    act c unlimited h later = tt
    act c (stopped w) h later = h

    by : (o : Option Column) → ((u : Table) → HasEntries u → Ends IsOptimumOf (run_from largest n m left (spent + 1) u))
        → Ends IsOptimumOf (on_entering o (read_off n m t spent) (λ c. on_pivot (pivoted largest c.place t) (λ next. run_from largest n m left (spent + 1) next) (unbounded (direction n c t) (spent + 1)) (λ w. wide_at (spent + 1) w)))
    by None later = read_has n m t spent has
    by (Some c) later = act c (pivoted largest c.place t) (turn_has c.place t has) later

-- ---- the first table
first_row_of : (p : LinearProgram) (i : ℕ) → HasValues p → IsRowOf (first_row p i)
first_row_of p i has =
    let own = All-take IsValue p.variables (drop (i * p.variables) p.coefficients) (All-drop IsValue (i * p.variables) p.coefficients has.coefficients) in
    let right = All-cons IsValue (at p.right_sides i) [] (at_value p.right_sides i has.right_sides) (All-nil IsValue) in
    All-append IsValue (row p i) (at p.right_sides i ∷ []) own right

first_has : (p : LinearProgram) → HasValues p → HasEntries (first_table p)
unfolding first_table
first_has p has =
    let turned = All-map IsValue negated p.costs (All-weaker IsValue (λ x. IsValue (negated x)) negated_value p.costs has.costs) in
    record {
      rows = listed_all IsRowOf (first_row p) (λ i. first_row_of p i has) 0 p.rows;
      objective = All-append IsValue (map negated p.costs) (fraction_zero ∷ []) turned (All-cons IsValue fraction_zero [] zero_value (All-nil IsValue));
    }

pub run_has : (p : LinearProgram) (left spent : ℕ) → HasValues p → Ends IsOptimumOf (run largest p left spent)
unfolding run
run_has p left spent has = run_from_has p.variables p.rows left spent (first_table p) (first_has p has)
