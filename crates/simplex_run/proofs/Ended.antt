-- Some limit fits each run, so without a limit each ends with an optimum or a direction.
use Rattle.std.proofs.Common.{◌≡◌, ℕ, zero, suc, ◌+◌, ◌≤◌, List, [], ◌∷◌, length, set, arith, refl, ap, pos, unsigned_abs, Bool, true, false, nat_eq}
use Rattle.std.specs.Prelude.{Result, Ok, Option, Some, None, if◌then◌else◌, nat_le}
use Rattle.std.proofs.lemmas.Bool.{le-leb}
use Rattle.exact_num.specs.declared.misfit.Wide.{Wide}
use Rattle.exact_num.specs.Fraction.{Fraction, whole, negated}
use Rattle.exact_num.specs.Fits.{size_fits, sum_fits, sum_value, add_of, sub_of, sum_left, sum_right, sum_total, sum_below, product_fits, product_value, product_above, product_below, mul_of, div_of, inverse, after}
use Rattle.simplex_run.specs.Places.{at, fraction_zero}
use Rattle.simplex_run.specs.Program.{LinearProgram}
use Rattle.simplex_run.specs.Table.{Row, Table, label_at, with_right, entries_at, basic_at, first_table, right_side, row_of}
use Rattle.simplex_run.specs.Choice.{Column, entering, ratio_in, ratios, least, join_ratio}
use Rattle.exact_num.specs.Tests.{is_above_zero}
use Rattle.simplex_run.specs.Pivot.{steps_of, told, divided, less_product, eliminated, row_after, rows_after, after_pivot}
use Rattle.simplex_run.specs.Ending.{Ending, done, unbounded, wide_at, no_unit_left, HasNoMisfit}
use Rattle.simplex_run.specs.Run.{Optimum, optimum, PivotEnd, moved, unlimited, stopped, pivoted, run, run_from, on_entering, on_pivot, read_off, direction}
use Rattle.simplex_run.specs.Optimum.{IsProgram}
use Rattle.simplex_run.specs.Choose.{choose}
use Rattle.simplex_run.specs.Limits.{IsFound, RunsEnd}
use Rattle.simplex_run.proofs.Suffice.{units_suffice}

-- f answers Ok with some limit, and then with each greater one
abbrev Fits : {A E : Type 0} → (ℕ → Result A E) → Type 0
Fits {A} {E} f = (l : ℕ) × (a : A) × ((l' : ℕ) → l ≤ l' → f l' ≡ Ok a)

after_fits : {A B : Type 0} (r : ℕ → Result A Wide) (f : ℕ → A → Result B Wide) → Fits r → ((a : A) → Fits (λ l. f l a)) → Fits (λ l. after (r l) (f l))
after_fits r f h k =
    let w = k h.1 in
    (h.0 + w.0, w.1, λ l low. let p = h.2 l (omega (arith, low)) in rw p (w.2 l (omega (arith, low))))

ok_fits : {A E : Type 0} (a : A) → Fits {A = A} {E = E} (λ l. Ok a)
ok_fits a = (0, a, λ l low. refl)

-- ---- the steps

add_fits : (x y : Fraction) → Fits (λ l. add_of l x y)
unfolding add_of sum_fits
add_fits x y =
    let a : ℕ = unsigned_abs (sum_left x y) in
    let b : ℕ = unsigned_abs (sum_right x y) in
    let c : ℕ = unsigned_abs (sum_total x y) in
    let d : ℕ = sum_below x y in (
      a + b + c + d,
      sum_value x y,
      λ l low.
          let p : size_fits l (sum_left x y) ≡ true = le-leb a l (omega (arith, low)) in
          let q : size_fits l (sum_right x y) ≡ true = le-leb b l (omega (arith, low)) in
          let r : size_fits l (sum_total x y) ≡ true = le-leb c l (omega (arith, low)) in
          let s : nat_le (sum_below x y) l ≡ true = le-leb d l (omega (arith, low)) in
          rw (p, q, r, s) refl,
    )

product_test : (x y : Fraction) → (l : ℕ) × ((l' : ℕ) → l ≤ l' → product_fits l' x y ≡ true)
unfolding product_fits
product_test x y =
    let a : ℕ = unsigned_abs (product_above x y) in
    let b : ℕ = product_below x y in (
      a + b,
      λ l low.
          let p : size_fits l (product_above x y) ≡ true = le-leb a l (omega (arith, low)) in
          let q : nat_le (product_below x y) l ≡ true = le-leb b l (omega (arith, low)) in
          rw (p, q) refl,
    )

mul_fits : (x y : Fraction) → Fits (λ l. mul_of l x y)
unfolding mul_of
mul_fits x y = let w = product_test x y in (w.0, product_value x y, λ l low. let p = w.1 l low in rw p refl)

div_fits : (x y : Fraction) → Fits (λ l. div_of l x y)
unfolding div_of
div_fits x y = let w = product_test x (inverse y) in (w.0, product_value x (inverse y), λ l low. let p = w.1 l low in rw p refl)

-- ---- a pivot
steps_fit : (f : ℕ → ℕ → Result Fraction Wide) → ((k : ℕ) → Fits (λ l. f l k)) → (k : ℕ) (vs : List ℕ) → Fits (λ l. steps_of (f l) k vs)
unfolding steps_of
steps_fit f h k [] = ok_fits []
steps_fit f h k (v ∷ vs) =
    let w = h k in
    let later = steps_fit f h (k + 1) vs in
    (w.0 + later.0, w.1 ∷ later.1, λ l low. let p = w.2 l (omega (arith, low)) in let q = later.2 l (omega (arith, low)) in rw (p, q) refl)

told_fits : (f : ℕ → ℕ → Result Fraction Wide) → ((k : ℕ) → Fits (λ l. f l k)) → (vs : List ℕ) → Fits (λ l. told (steps_of (f l) 0 vs))
told_fits f h vs = let w = steps_fit f h 0 vs in (w.0, w.1, λ l low. ap told (w.2 l low))

divided_fits : (c : ℕ) (labels : List ℕ) (entries : List Fraction) → Fits (λ l. divided l c labels entries)
unfolding divided
divided_fits c labels entries = told_fits (λ l k. div_of l (at (set entries c (whole (pos 1))) k) (at entries c)) (λ k. div_fits (at (set entries c (whole (pos 1))) k) (at entries c)) labels

cleared_fits : (c : ℕ) (labels : List ℕ) (pivot xs : List Fraction) → Fits (λ l. eliminated l c labels pivot xs)
unfolding eliminated
cleared_fits c labels pivot xs =
    let f = at xs c in
    let x : ℕ → Fraction = at (set xs c fraction_zero) in
    told_fits (λ l k. less_product l f (x k) (at pivot k)) (λ k. after_fits (λ l. mul_of l f (at pivot k)) (λ l product. sub_of l (x k) product) (mul_fits f (at pivot k)) (λ product. add_fits (x k) (negated product))) labels

row_fits : (c : ℕ) (labels : List ℕ) (e r : ℕ) (pivot : List Fraction) (i : ℕ) (row : Row) → Fits (λ l. row_after l c labels e r pivot i row)
row_fits c labels e r pivot i row = step (nat_eq i r)
  where
    step : (b : Bool) → Fits (λ l. if b then Ok (row_of e pivot) else after (eliminated l c labels pivot row.entries) (λ es. Ok (row_of row.basic es)))
    step true = ok_fits (row_of e pivot)
    step false = after_fits (λ l. eliminated l c labels pivot row.entries) (λ l es. Ok (row_of row.basic es)) (cleared_fits c labels pivot row.entries) (λ es. ok_fits (row_of row.basic es))

rows_after_fits : (c : ℕ) (labels : List ℕ) (e r : ℕ) (pivot : List Fraction) (i : ℕ) (rows : List Row) → Fits (λ l. rows_after l c labels e r pivot i rows)
unfolding rows_after
rows_after_fits c labels e r pivot i [] = ok_fits []
rows_after_fits c labels e r pivot i (row ∷ rows) =
    after_fits (λ l. row_after l c labels e r pivot i row) (λ l first. after (rows_after l c labels e r pivot (i + 1) rows) (λ others. Ok (first ∷ others))) (row_fits c labels e r pivot i row)
    (λ first. after_fits (λ l. rows_after l c labels e r pivot (i + 1) rows) (λ l others. Ok (first ∷ others)) (rows_after_fits c labels e r pivot (i + 1) rows) (λ others. ok_fits (first ∷ others)))

pivoted_fits : (c r : ℕ) (t : Table) → Fits (λ l. after_pivot l c r t)
unfolding after_pivot
pivoted_fits c r t =
    let us = set t.labels c (basic_at t.rows r) in
    let ks = with_right t.columns us in
    let e = label_at t.labels c in
    let made : List Row → List Fraction → Table = λ rows objective. record { columns = t.columns; labels = us; rows = rows; objective = objective } in
    after_fits (λ l. divided l c ks (entries_at t.rows r)) (λ l pivot. after (rows_after l c ks e r pivot 0 t.rows) (λ rows. after (eliminated l c ks pivot t.objective) (λ objective. Ok (made rows objective)))) (divided_fits c ks (entries_at t.rows r))
    (λ pivot. after_fits (λ l. rows_after l c ks e r pivot 0 t.rows) (λ l rows. after (eliminated l c ks pivot t.objective) (λ objective. Ok (made rows objective))) (rows_after_fits c ks e r pivot 0 t.rows)
    (λ rows. after_fits (λ l. eliminated l c ks pivot t.objective) (λ l objective. Ok (made rows objective)) (cleared_fits c ks pivot t.objective) (λ objective. ok_fits (made rows objective))))

ratio_fits : (width c : ℕ) (entries : List Fraction) → Fits (λ l. ratio_in l width c entries)
unfolding ratio_in
ratio_fits width c entries = step (is_above_zero (at entries c))
  where
    step : (b : Bool) → Fits (λ l. if b then after (div_of l (right_side width entries) (at entries c)) (λ q. Ok (Some q)) else Ok None)
    step true = after_fits (λ l. div_of l (right_side width entries) (at entries c)) (λ l q. Ok (Some q)) (div_fits (right_side width entries) (at entries c)) (λ q. ok_fits (Some q))
    step false = ok_fits None

ratios_fits : (width c i : ℕ) (rows : List Row) → Fits (λ l. ratios l width c i rows)
unfolding ratios
ratios_fits width c i [] = ok_fits []
ratios_fits width c i (row ∷ rows) =
    after_fits (λ l. ratio_in l width c row.entries) (λ l q. after (ratios l width c (i + 1) rows) (λ qs. Ok (join_ratio i row.basic q qs))) (ratio_fits width c row.entries)
    (λ q. after_fits (λ l. ratios l width c (i + 1) rows) (λ l qs. Ok (join_ratio i row.basic q qs)) (ratios_fits width c (i + 1) rows) (λ qs. ok_fits (join_ratio i row.basic q qs)))

abbrev Goes : PivotEnd → Type 0
Goes (moved u) = Unit {0}
Goes unlimited = Unit {0}
Goes (stopped w) = ⊥

pivot_fits : (c : ℕ) (t : Table) → (l : ℕ) × (w : PivotEnd) × Goes w × ((l' : ℕ) → l ≤ l' → pivoted l' c t ≡ w)
unfolding pivoted
pivot_fits c t = step (ratios_fits (length t.labels) c 0 t.rows)
  where
    step : Fits (λ l. ratios l (length t.labels) c 0 t.rows) → (l : ℕ) × (w : PivotEnd) × Goes w × ((l' : ℕ) → l ≤ l' → pivoted l' c t ≡ w)
    step (l, [], h) = (l, unlimited, tt, λ l' low. let p = h l' low in rw p refl)
    step (l, q ∷ qs, h) =
        let v = pivoted_fits c (least q qs).place t in
        (l + v.0, moved v.1, tt, λ l' low. let p = h l' (omega (arith, low)) in let r = v.2 l' (omega (arith, low)) in rw (p, r) refl)

-- ---- the run
read_fits : (n m spent : ℕ) (t : Table) → HasNoMisfit (read_off n m t spent)
unfolding read_off
read_fits n m spent t = tt

run_fits : (n m left spent : ℕ) (t : Table) → (l : ℕ) × ((l' : ℕ) → l ≤ l' → HasNoMisfit (run_from l' n m left spent t))
unfolding run_from
run_fits n m zero spent t = (0, λ l' low. step (entering t))
  where
    step : (o : Option Column) → HasNoMisfit (on_entering o (read_off n m t spent) (λ c. no_unit_left spent))
    step None = read_fits n m spent t
    step (Some c) = tt
run_fits n m (suc left) spent t = step (entering t) (λ u. run_fits n m left (spent + 1) u)
  where
    act : (c : Column) → ((u : Table) → (l : ℕ) × ((l' : ℕ) → l ≤ l' → HasNoMisfit (run_from l' n m left (spent + 1) u))) → (l : ℕ) (w : PivotEnd) → Goes w → ((l' : ℕ) → l ≤ l' → pivoted l' c.place t ≡ w)
        → (l : ℕ) × ((l' : ℕ) → l ≤ l' → HasNoMisfit (on_pivot (pivoted l' c.place t) (λ next. run_from l' n m left (spent + 1) next) (unbounded (direction n c t) (spent + 1)) (λ w. wide_at (spent + 1) w)))
    act c later l (moved u) goes h = let v = later u in (l + v.0, λ l' low. let p = h l' (omega (arith, low)) in rw p (v.1 l' (omega (arith, low))))
    act c later l unlimited goes h = (l, λ l' low. let p = h l' low in rw p tt)
    act c later l (stopped w) goes h = absurd goes

    step : (o : Option Column) → ((u : Table) → (l : ℕ) × ((l' : ℕ) → l ≤ l' → HasNoMisfit (run_from l' n m left (spent + 1) u)))
        → (l : ℕ) × ((l' : ℕ) → l ≤ l' → HasNoMisfit (on_entering o (read_off n m t spent) (λ c. on_pivot (pivoted l' c.place t) (λ next. run_from l' n m left (spent + 1) next) (unbounded (direction n c t) (spent + 1)) (λ w. wide_at (spent + 1) w))))
    step None later = (0, λ l' low. read_fits n m spent t)
    step (Some c) later = let v = pivot_fits c.place t in act c later v.0 v.1 v.2 v.3

found : (limit : ℕ) (p : LinearProgram) (w : Ending Optimum) → IsProgram p → run limit p (choose (p.variables + p.rows) p.rows) 0 ≡ w → HasNoMisfit w → IsFound w
found limit p (done (optimum x y reduced value) units) g h k = tt
found limit p (unbounded d units) g h k = tt
found limit p (wide_at units wide) g h k = k
found limit p (no_unit_left units) g h k = let few = units_suffice limit p (choose (p.variables + p.rows) p.rows) 0 units g h in absurd (omega (arith, few))

no_misfit : (limit : ℕ) (p : LinearProgram) (left : ℕ) → HasNoMisfit (run_from limit p.variables p.rows left 0 (first_table p)) → HasNoMisfit (run limit p left 0)
unfolding run
no_misfit limit p left h = h

pub runs_end : RunsEnd
runs_end p g =
    let v = run_fits p.variables p.rows (choose (p.variables + p.rows) p.rows) 0 (first_table p) in
    (v.0, found v.0 p (run v.0 p (choose (p.variables + p.rows) p.rows) 0) g refl (no_misfit v.0 p (choose (p.variables + p.rows) p.rows) (v.1 v.0 (omega arith))))
