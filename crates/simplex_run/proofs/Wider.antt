-- What fits a limit fits a greater one, with the same value: so a run's tables do not depend on the
-- limit.
use Rattle.std.proofs.Common.{◌≡◌, ℕ, zero, suc, ◌+◌, ◌≤◌, List, [], ◌∷◌, length, set, arith, refl, pos, Bool, true, false, nat_eq}
use Rattle.std.specs.Prelude.{Ok, Option, Some, None, if◌then◌else◌}
use Rattle.exact_num.specs.Fraction.{Fraction, whole, negated}
use Rattle.exact_num.specs.Fits.{sub_of, mul_of, div_of, after}
use Rattle.simplex_run.specs.Places.{at, fraction_zero}
use Rattle.simplex_run.specs.Program.{LinearProgram}
use Rattle.simplex_run.specs.Table.{Row, Table, label_at, with_right, entries_at, basic_at, first_table, right_side, row_of}
use Rattle.simplex_run.specs.Choice.{Ratio, Column, entering, ratio_in, ratios, least, join_ratio}
use Rattle.exact_num.specs.Tests.{is_above_zero}
use Rattle.simplex_run.specs.Pivot.{divided, less_product, eliminated, row_after, rows_after, after_pivot}
use Rattle.simplex_run.specs.Ending.{Ending, unbounded, wide_at, HasNoMisfit}
use Rattle.simplex_run.specs.Run.{Optimum, PivotEnd, moved, unlimited, stopped, pivoted, on_entering, on_pivot, read_off, direction, run_from, run}
use Rattle.simplex_run.specs.Limits.{SameWithGreaterLimit}
use Rattle.simplex_run.specs.Pivots.{table_after, BasicsDiffer}
use Rattle.exact_num.proofs.After.{after_value, after_more}
use Rattle.exact_num.proofs.GreaterLimit.{add_more, mul_more, div_more}
use Rattle.simplex_run.proofs.StepsOf.{steps_more}
use Rattle.simplex_run.proofs.Choices.{moved_out, unlimited_out}
use Rattle.simplex_run.proofs.Tables.{next_out, basics_differ_at}

-- ---- the steps of a row, of the rows, and of a pivot
divided_more : (l l' c : ℕ) (labels : List ℕ) (xs ys : List Fraction) → l ≤ l' → divided l c labels xs ≡ Ok ys → divided l' c labels xs ≡ Ok ys
unfolding divided
divided_more l l' c labels xs ys h =
    let x : ℕ → Fraction = at (set xs c (whole (pos 1))) in
    steps_more (λ k. div_of l (x k) (at xs c)) (λ k. div_of l' (x k) (at xs c)) (λ k y. div_more l l' (x k) (at xs c) y h) labels ys

cleared_more : (l l' c : ℕ) (labels : List ℕ) (pivot xs ys : List Fraction) → l ≤ l' → eliminated l c labels pivot xs ≡ Ok ys → eliminated l' c labels pivot xs ≡ Ok ys
unfolding eliminated
cleared_more l l' c labels pivot xs ys h =
    let x : ℕ → Fraction = at (set xs c fraction_zero) in
    let f = at xs c in
    steps_more (λ k. less_product l f (x k) (at pivot k)) (λ k. less_product l' f (x k) (at pivot k))
    (λ k y. after_more (mul_of l f (at pivot k)) (mul_of l' f (at pivot k)) (λ product. sub_of l (x k) product) (λ product. sub_of l' (x k) product) y (λ a. mul_more l l' f (at pivot k) a h) (λ a b. add_more l l' (x k) (negated a) b h))
    labels ys

row_more : (l l' c : ℕ) (labels : List ℕ) (e r : ℕ) (pivot : List Fraction) (i : ℕ) (row u : Row) → l ≤ l' → row_after l c labels e r pivot i row ≡ Ok u → row_after l' c labels e r pivot i row ≡ Ok u
row_more l l' c labels e r pivot i row u h k = step (nat_eq i r) k
  where
    step : (b : Bool) → (if b then Ok (row_of e pivot) else after (eliminated l c labels pivot row.entries) (λ es. Ok (row_of row.basic es))) ≡ Ok u → (if b then Ok (row_of e pivot) else after (eliminated l' c labels pivot row.entries) (λ es. Ok (row_of row.basic es))) ≡ Ok u
    step true k = k
    step false k = after_more (eliminated l c labels pivot row.entries) (eliminated l' c labels pivot row.entries) (λ es. Ok (row_of row.basic es)) (λ es. Ok (row_of row.basic es)) u (λ a. cleared_more l l' c labels pivot row.entries a h) (λ a b e. e) k

rows_after_more : (l l' c : ℕ) (labels : List ℕ) (e r : ℕ) (pivot : List Fraction) (i : ℕ) (rows us : List Row) → l ≤ l' → rows_after l c labels e r pivot i rows ≡ Ok us → rows_after l' c labels e r pivot i rows ≡ Ok us
unfolding rows_after
rows_after_more l l' c labels e r pivot i [] us h k = k
rows_after_more l l' c labels e r pivot i (row ∷ rows) us h k =
    after_more (row_after l c labels e r pivot i row) (row_after l' c labels e r pivot i row) (λ first. after (rows_after l c labels e r pivot (i + 1) rows) (λ others. Ok (first ∷ others))) (λ first. after (rows_after l' c labels e r pivot (i + 1) rows) (λ others. Ok (first ∷ others))) us (λ a. row_more l l' c labels e r pivot i row a h)
    (λ a zs. after_more (rows_after l c labels e r pivot (i + 1) rows) (rows_after l' c labels e r pivot (i + 1) rows) (λ others. Ok (a ∷ others)) (λ others. Ok (a ∷ others)) zs (λ b. rows_after_more l l' c labels e r pivot (i + 1) rows b h) (λ c b e. e)) k

pivoted_more : (l l' c r : ℕ) (t u : Table) → l ≤ l' → after_pivot l c r t ≡ Ok u → after_pivot l' c r t ≡ Ok u
unfolding after_pivot
pivoted_more l l' c r t u h k =
    let ks = with_right t.columns (set t.labels c (basic_at t.rows r)) in
    let e = label_at t.labels c in
    let a = after_value (divided l c ks (entries_at t.rows r)) _ u k in
    let b = after_value (rows_after l c ks e r a.value 0 t.rows) _ u a.rest in
    let o = after_value (eliminated l c ks a.value t.objective) _ u b.rest in
    let a' = divided_more l l' c ks (entries_at t.rows r) a.value h a.first in
    let b' = rows_after_more l l' c ks e r a.value 0 t.rows b.value h b.first in
    let o' = cleared_more l l' c ks a.value t.objective o.value h o.first in
    rw (a', b', o') o.rest

ratio_more : (l l' width c : ℕ) (entries : List Fraction) (o : Option Fraction) → l ≤ l' → ratio_in l width c entries ≡ Ok o → ratio_in l' width c entries ≡ Ok o
unfolding ratio_in
ratio_more l l' width c entries o h k = step (is_above_zero (at entries c)) k
  where
    step : (b : Bool) → (if b then after (div_of l (right_side width entries) (at entries c)) (λ q. Ok (Some q)) else Ok None) ≡ Ok o → (if b then after (div_of l' (right_side width entries) (at entries c)) (λ q. Ok (Some q)) else Ok None) ≡ Ok o
    step true k = after_more (div_of l (right_side width entries) (at entries c)) (div_of l' (right_side width entries) (at entries c)) (λ q. Ok (Some q)) (λ q. Ok (Some q)) o (λ a. div_more l l' (right_side width entries) (at entries c) a h) (λ a b e. e) k
    step false k = k

ratios_more : (l l' width c i : ℕ) (rows : List Row) (qs : List Ratio) → l ≤ l' → ratios l width c i rows ≡ Ok qs → ratios l' width c i rows ≡ Ok qs
unfolding ratios
ratios_more l l' width c i [] qs h k = k
ratios_more l l' width c i (row ∷ rows) qs h k =
    after_more (ratio_in l width c row.entries) (ratio_in l' width c row.entries) (λ q. after (ratios l width c (i + 1) rows) (λ qs. Ok (join_ratio i row.basic q qs))) (λ q. after (ratios l' width c (i + 1) rows) (λ qs. Ok (join_ratio i row.basic q qs))) qs (λ a. ratio_more l l' width c row.entries a h)
    (λ a zs. after_more (ratios l width c (i + 1) rows) (ratios l' width c (i + 1) rows) (λ qs. Ok (join_ratio i row.basic a qs)) (λ qs. Ok (join_ratio i row.basic a qs)) zs (λ b. ratios_more l l' width c (i + 1) rows b h) (λ d b e. e)) k

pivot_more : (l l' c : ℕ) (t u : Table) → l ≤ l' → pivoted l c t ≡ moved u → pivoted l' c t ≡ moved u
unfolding pivoted
pivot_more l l' c t u h k =
    let w = moved_out l c t u k in
    let f = ratios_more l l' (length t.labels) c 0 t.rows (w.0 ∷ w.1) h w.2 in
    let g = pivoted_more l l' c (least w.0 w.1).place t u h w.3 in
    rw (f, g) refl

unlimited_more : (l l' c : ℕ) (t : Table) → l ≤ l' → pivoted l c t ≡ unlimited → pivoted l' c t ≡ unlimited
unfolding pivoted
unlimited_more l l' c t h k = let f = ratios_more l l' (length t.labels) c 0 t.rows [] h (unlimited_out l c t k) in rw f refl

-- ---- the run
run_more : (l l' n m left spent : ℕ) (t : Table) → l ≤ l' → HasNoMisfit (run_from l n m left spent t) → run_from l' n m left spent t ≡ run_from l n m left spent t
unfolding run_from
run_more l l' n m zero spent t h k = refl
run_more l l' n m (suc left) spent t h k = step (entering t) k (λ u. run_more l l' n m left (spent + 1) u h)
  where
    go : ℕ → Table → Ending Optimum
    go limit next = run_from limit n m left (spent + 1) next

    act : (c : Column) (w : PivotEnd) → pivoted l c.place t ≡ w → HasNoMisfit (on_pivot w (go l) (unbounded (direction n c t) (spent + 1)) (λ w. wide_at (spent + 1) w))
        → ((u : Table) → HasNoMisfit (go l u) → go l' u ≡ go l u)
        → on_pivot (pivoted l' c.place t) (go l') (unbounded (direction n c t) (spent + 1)) (λ w. wide_at (spent + 1) w) ≡ on_pivot w (go l) (unbounded (direction n c t) (spent + 1)) (λ w. wide_at (spent + 1) w)
    act c (moved u) f k later = let g = pivot_more l l' c.place t u h f in rw g (later u k)
    act c unlimited f k later = let g = unlimited_more l l' c.place t h f in rw g refl
    act c (stopped w) f k later = absurd k

    step : (o : Option Column) → HasNoMisfit (on_entering o (read_off n m t spent) (λ c. on_pivot (pivoted l c.place t) (go l) (unbounded (direction n c t) (spent + 1)) (λ w. wide_at (spent + 1) w)))
        → ((u : Table) → HasNoMisfit (go l u) → go l' u ≡ go l u)
        → on_entering o (read_off n m t spent) (λ c. on_pivot (pivoted l' c.place t) (go l') (unbounded (direction n c t) (spent + 1)) (λ w. wide_at (spent + 1) w))
        ≡ on_entering o (read_off n m t spent) (λ c. on_pivot (pivoted l c.place t) (go l) (unbounded (direction n c t) (spent + 1)) (λ w. wide_at (spent + 1) w))
    step None k later = refl
    step (Some c) k later = act c (pivoted l c.place t) refl k later

pub same_with_greater_limit : SameWithGreaterLimit
unfolding run
same_with_greater_limit limit greater p left spent h k = run_more limit greater p.variables p.rows left spent (first_table p) h k

-- ---- the tables
pub table_more : (l l' : ℕ) (p : LinearProgram) (k : ℕ) (t : Table) → l ≤ l' → table_after l p k ≡ Some t → table_after l' p k ≡ Some t
unfolding table_after
table_more l l' p zero t h k = k
table_more l l' p (suc i) t h k =
    let w = next_out l (table_after l p i) t k in
    let before = table_more l l' p i w.0 h w.1 in
    let step = pivot_more l l' w.2.place w.0 t h w.4 in
    let enters = w.3 in
    rw (before, enters, step) refl

-- the tables of a run without a limit have pairwise different sets of basic variables
pub basics_differ : BasicsDiffer
basics_differ p i j t u g less at_i at_j same =
    let l : ℕ = at_i.0 + at_j.0 in
    basics_differ_at l p i j t u g less (table_more at_i.0 l p i t (omega arith) at_i.1) (table_more at_j.0 l p j u (omega arith) at_j.1) same
