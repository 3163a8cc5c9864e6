-- Each run ends as it says: an optimum is feasible and has a dual of the same value, along a
-- direction the objective rises without an end.
use Rattle.std.proofs.Common.{◌≡◌, ℕ, suc, ◌+◌, ◌*◌, ◌<◌, ◌≤◌, List, length, take, drop, arith, refl, sym, ◌∙◌, ap, subst, ℤ, pos, ◌≤ℤ◌, ◌<ℤ◌, neg_ℤ}
use Rattle.std.specs.Prelude.{Some, None, if◌then◌else◌, nat_eq, true, false, Bool}
use Rattle.std.proofs.Math.Nat.{mul-pos}
use Rattle.std.proofs.lemmas.Int.{ints, by_lt_z}
use Rattle.std.proofs.lemmas.List.{get_or-take, get_or-drop}
use Rattle.std.proofs.lemmas.Bool.Decides.{nat_tests}
use Rattle.exact_num.specs.Fraction.{Fraction, IsLowest, whole, negated, plain_sum, plain_dot, IsNotBelowZero}
use Rattle.exact_num.proofs.Values.{whole_is_lowest, negated_is_lowest}
use Rattle.exact_num.proofs.Rationals.{value_zero, value_one, value_negated, value_sum, value_same, value_at_most, value_not_below, not_below_value, dot_positive, at_most_of_sum, add_not_below, mul_not_below, one_not_below, neg_not_below, zero_has, add_0, zero_add_Q, mul_0, zero_mul_Q, mul_1, one_mul_Q, mul_neg, neg_neg, neg_mul, add_neg, add_comm, add_assoc, mul_comm_Q}
use Rattle.exact_num.specs.Rationals.{Q, ◌+Q◌, ◌*Q◌, neg_Q, 0Q, 1Q, value, IsNotBelow0, IsAbove0, IsBelow0, IsAtMost, total, unit, spread}
use Rattle.exact_num.proofs.Totals.{total-ext, total-zero, total-split, total-unit, total-neg, value_dot, unit-same, unit-other, unit-not-below, spread-other, spread-not-below}
use Rattle.simplex_run.specs.Places.{at, values_at}
use Rattle.simplex_run.specs.Program.{LinearProgram, row, column}
use Rattle.simplex_run.specs.Table.{Row, Table, with_right, entries_at, entry_for, own_entry, no_entry, first_table, right_side, where_basic, basic_at}
use Rattle.simplex_run.specs.Choice.{Column, entering, least}
use Rattle.simplex_run.specs.Run.{moved, unlimited, pivoted, run, solution, dual, reduced_costs, reduced_cost_of, value_of, read_off, direction}
use Rattle.simplex_run.specs.Optimum.{IsProgram, IsOptimum, IsDirection, AreNotBelowZero, IsAsSaid, EndsAreAsSaid}
use Rattle.simplex_run.proofs.Entries.{IsTable, is_feasible, entry_has, right_entry}
use Rattle.simplex_run.specs.Tableau.{tableau_of, Tableau, IsFeasible, HaveSameSolutions, Solves, row_at}
use Rattle.simplex_run.proofs.Pivot.{point, row_at-point, point_solves, point_earns, tied_refl, tied_trans, tied_after, after_right}
use Rattle.simplex_run.proofs.Choices.{Enters, moved_out, unlimited_out, unlimited_is, bland_pivot, entering_out, entering_none, label_inside, entry_entering, price_entering, price_sign}
use Rattle.simplex_run.proofs.FirstTable.{first_is_table, first_is_good, lowest-row, length-row, entry_variable, entry_slack, entry_right, price_variable, price_slack, price_last, basic_first}
use Rattle.simplex_run.proofs.Listed.{listed_count, listed_at, listed_from}
use Rattle.simplex_run.proofs.Ends.{run_keeps, holds_at, where_basic_lowest, where_basic_is, apart_of_good}

-- ---- what each pivot keeps
pub record Keeps (p : LinearProgram) (t : Table) : Type 0 where
  pub table : IsTable p.variables p.rows t
  pub good : IsFeasible p.rows (p.variables + p.rows) (tableau_of t)
  pub tied : HaveSameSolutions p.rows (p.variables + p.rows) (tableau_of (first_table p)) (tableau_of t)

pub keeps_first : (p : LinearProgram) → IsProgram p → Keeps p (first_table p)
keeps_first p g = record { table = first_is_table p g; good = first_is_good p g; tied = tied_refl p.rows (p.variables + p.rows) (tableau_of (first_table p)) }

pub above_apart : (z : ℤ) → pos 0 <ℤ z → z ≡ pos 0 → ⊥
above_apart z h e = omega (arith, ints, h, e)

pub keeps_pivot : (p : LinearProgram) (limit : ℕ) (t u : Table) (c : Column) → Keeps p t → entering t ≡ Some c → pivoted limit c.place t ≡ moved u → Keeps p u
keeps_pivot p limit t u c k enters h =
    let n = p.variables in
    let m = p.rows in
    let N = n + m in
    let w = moved_out limit c.place t u h in
    let r = (least w.0 w.1).place in
    let b = bland_pivot limit n m t u c w.0 w.1 k.table enters w.2 w.3 in
    record {
      table = b.0;
      good = is_feasible n m u b.0 (after_right m N c.label r (tableau_of t) (tableau_of u) k.good b.1.choice b.1.pivoted);
      tied = tied_trans m N (tableau_of (first_table p)) (tableau_of t) (tableau_of u) k.tied (tied_after m N c.label r (tableau_of t) (tableau_of u) b.1.choice b.1.pivoted);
    }

-- ---- the point of a table, entry by entry
read_at : (n m : ℕ) (t : Table) (k : ℕ) (c : Q) (f : Row → Fraction) (j : ℕ) → IsTable n m t → IsFeasible m (n + m) (tableau_of t) → ((i : ℕ) → i < m → value (f (record { basic = basic_at t.rows i; entries = entries_at t.rows i })) ≡ neg_Q ((tableau_of t).entry i k *Q c)) → (k ≡ j → ⊥) → value (where_basic f j t.rows) ≡ point m (tableau_of t) k c j
unfolding point spread
read_at n m t k c f j g good h ne =
    where_basic_is f (λ i. neg_Q ((tableau_of t).entry i k *Q c)) j t.rows (λ i p. h i (omega (arith, p, g.count))) (λ i l p q e. apart_of_good m (n + m) (tableau_of t) good i l (omega (arith, p, g.count)) (omega (arith, q, g.count)) e)
    ∙ ap (λ w. total w (λ i. unit (basic_at t.rows i) j *Q neg_Q ((tableau_of t).entry i k *Q c))) g.count
    ∙ sym (ap (λ w. total m (λ i. unit (basic_at t.rows i) j *Q neg_Q ((tableau_of t).entry i k *Q c)) +Q w) (ap (λ w. w *Q c) (unit-other k j ne) ∙ zero_mul_Q c) ∙ add_0 _)

point_sign : (m n : ℕ) (T : Tableau) (k : ℕ) (c : Q) (j : ℕ) → ((i : ℕ) → i < m → IsNotBelow0 (neg_Q (T.entry i k *Q c))) → IsNotBelow0 c → IsNotBelow0 (point m T k c j)
unfolding point
point_sign m n T k c j h p = add_not_below _ _ (spread-not-below m T.basic _ j h) (mul_not_below (unit k j) c (unit-not-below k j) p)

point_sign_other : (m n : ℕ) (T : Tableau) (k : ℕ) (c : Q) (j : ℕ) → ((i : ℕ) → i < m → IsNotBelow0 (neg_Q (T.entry i k *Q c))) → (k ≡ j → ⊥) → IsNotBelow0 (point m T k c j)
unfolding point
point_sign_other m n T k c j h ne =
    subst IsNotBelow0 (sym (ap (λ w. spread m T.basic (λ i. neg_Q (T.entry i k *Q c)) j +Q w) (ap (λ w. w *Q c) (unit-other k j ne) ∙ zero_mul_Q c) ∙ add_0 _))
    (spread-not-below m T.basic _ j h)

-- at a column that is not basic
point_outside : (m n : ℕ) (T : Tableau) (k : ℕ) (c : Q) (j : ℕ) → ((i : ℕ) → i < m → T.basic i ≡ j → ⊥) → point m T k c j ≡ unit k j *Q c
unfolding point
point_outside m n T k c j h = ap (λ w. w +Q unit k j *Q c) (spread-other m T.basic _ j h) ∙ zero_add_Q _

not_basic : (m n : ℕ) (T : Tableau) → IsFeasible m n T → (i : ℕ) → i < m → T.basic i ≡ n → ⊥
not_basic m n T g i p e = let low : T.basic i < n = g.inside i p in omega (arith, low, e)

-- ---- the rows and the objective of the first table
first_row_at : (p : LinearProgram) → IsProgram p → (i : ℕ) → i < p.rows → (z : ℕ → Q) → row_at (p.variables + p.rows) ((tableau_of (first_table p)).entry i) z ≡ (total p.variables (λ j. value (at (row p i) j) *Q z j) +Q z (p.variables + i)) +Q value (at p.right_sides i) *Q z (p.variables + p.rows)
unfolding row_at total
first_row_at p g i h z =
    let n = p.variables in
    let m = p.rows in
    let a : ℕ → Q = (tableau_of (first_table p)).entry i in
    ap (λ w. w +Q a (n + m) *Q z (n + m))
    (total-split n m (λ j. a j *Q z j)
    ∙ ap (λ w. w +Q total m (λ k. a (n + k) *Q z (n + k))) (total-ext n (λ j. a j *Q z j) (λ j. value (at (row p i) j) *Q z j) (λ j q. ap (λ w. w *Q z j) (entry_variable p g i j h q)))
    ∙ ap (λ w. total n (λ j. value (at (row p i) j) *Q z j) +Q w)
    (total-ext m (λ k. a (n + k) *Q z (n + k)) (λ k. z (n + k) *Q unit i k) (λ k q. ap (λ w. w *Q z (n + k)) (entry_slack p g i k h q) ∙ mul_comm_Q _ _)
    ∙ total-unit m i (λ k. z (n + k)) h))
    ∙ ap (λ w. (total n (λ j. value (at (row p i) j) *Q z j) +Q z (n + i)) +Q w *Q z (n + m)) (entry_right p g i h)

first_price_at : (p : LinearProgram) → IsProgram p → (z : ℕ → Q) → row_at (p.variables + p.rows) ((tableau_of (first_table p)).price) z ≡ neg_Q (total p.variables (λ j. value (at p.costs j) *Q z j))
unfolding row_at total
first_price_at p g z =
    let n = p.variables in
    let m = p.rows in
    let a : ℕ → Q = (tableau_of (first_table p)).price in
    ap (λ w. total (n + m) (λ j. a j *Q z j) +Q w) (ap (λ w. w *Q z (n + m)) (price_last p g) ∙ zero_mul_Q _) ∙ add_0 _
    ∙ total-split n m (λ j. a j *Q z j)
    ∙ ap (λ w. total n (λ j. a j *Q z j) +Q w) (total-zero m _ (λ k q. ap (λ w. w *Q z (n + k)) (price_slack p g k q) ∙ zero_mul_Q _)) ∙ add_0 _
    ∙ total-ext n (λ j. a j *Q z j) (λ j. neg_Q (value (at p.costs j) *Q z j)) (λ j q. ap (λ w. w *Q z j) (price_variable p g j q) ∙ neg_mul _ _)
    ∙ total-neg n (λ j. value (at p.costs j) *Q z j)

-- ---- a little algebra
lone_sum : (d s b : Q) → (d +Q s) +Q b *Q neg_Q 1Q ≡ 0Q → d +Q s ≡ b
lone_sum d s b h =
    sym (add_0 _) ∙ ap (λ w. (d +Q s) +Q w) (sym (add_neg b) ∙ add_comm b (neg_Q b)) ∙ sym (add_assoc _ _ _)
    ∙ ap (λ w. (d +Q s) +Q w +Q b) (sym (mul_neg b 1Q ∙ ap neg_Q (mul_1 b))) ∙ ap (λ w. w +Q b) h ∙ zero_add_Q b

lone_zero : (d s b z : Q) → z ≡ 0Q → (d +Q s) +Q b *Q z ≡ 0Q → d +Q s ≡ 0Q
lone_zero d s b z e h = sym (add_0 _) ∙ ap (λ w. (d +Q s) +Q w) (sym (ap (λ w. b *Q w) e ∙ mul_0 b)) ∙ h

same_of_neg : (x y : Q) → neg_Q x ≡ y *Q neg_Q 1Q → x ≡ y
same_of_neg x y h = sym (neg_neg x) ∙ ap neg_Q (h ∙ mul_neg y 1Q ∙ ap neg_Q (mul_1 y)) ∙ neg_neg y

-- r is what is left where d less it is c
dual_of : (d r c : Q) → neg_Q d +Q r *Q 1Q ≡ c *Q 1Q → r ≡ d +Q c
dual_of d r c h =
    sym (zero_add_Q r) ∙ ap (λ w. w +Q r) (sym (add_neg d)) ∙ add_assoc d (neg_Q d) r ∙ ap (λ w. d +Q (neg_Q d +Q w)) (sym (mul_1 r)) ∙ ap (λ w. d +Q w) (h ∙ mul_1 c)

-- ---- the dual, read off the objective row
dual_at : (p : LinearProgram) (T : Tableau) → IsProgram p → HaveSameSolutions p.rows (p.variables + p.rows) (tableau_of (first_table p)) T → (k : ℕ) → k ≤ p.variables + p.rows → T.price k ≡ total p.rows (λ i. (tableau_of (first_table p)).entry i k *Q T.price (p.variables + i)) +Q (tableau_of (first_table p)).price k
dual_at p T g tied k low =
    let n = p.variables in
    let m = p.rows in
    let N = n + m in
    let S : Tableau = tableau_of (first_table p) in
    let good : IsFeasible m N S = first_is_good p g in
    let z : ℕ → Q = point m S k 1Q in
    let earned : row_at N T.price z ≡ S.price k *Q 1Q = sym (tied.same z (point_solves m N S k 1Q good low)) ∙ point_earns m N S k 1Q good low in
    let summed : total m (λ i. T.price (S.basic i) *Q neg_Q (S.entry i k *Q 1Q)) ≡ neg_Q (total m (λ i. S.entry i k *Q T.price (n + i))) =
    total-ext m _ (λ i. neg_Q (S.entry i k *Q T.price (n + i))) (λ i q. ap (λ w. T.price w *Q neg_Q (S.entry i k *Q 1Q)) (basic_first p i q) ∙ mul_neg _ _ ∙ ap (λ w. neg_Q (T.price (n + i) *Q w)) (mul_1 _) ∙ ap neg_Q (mul_comm_Q _ _))
    ∙ total-neg m (λ i. S.entry i k *Q T.price (n + i)) in
    dual_of (total m (λ i. S.entry i k *Q T.price (n + i))) (T.price k) (S.price k)
    (ap (λ w. w +Q T.price k *Q 1Q) (sym summed) ∙ sym (row_at-point m N S k 1Q T.price good low) ∙ earned)

-- ---- lists as they are read off
zero_sign : IsNotBelowZero (whole (pos 0))
zero_sign = omega (arith, ints)

zero_lowest : IsLowest (whole (pos 0))
zero_lowest = whole_is_lowest (pos 0)

-- a list of the values of z at the first n places, none below 0
values_not_below : (n : ℕ) (xs : List Fraction) (z : ℕ → Q) → length xs ≡ n → ((j : ℕ) → j < n → IsLowest (at xs j)) → ((j : ℕ) → j < n → value (at xs j) ≡ z j) → ((j : ℕ) → j < n → IsNotBelow0 (z j)) → AreNotBelowZero n xs
values_not_below n xs z count low is_z sign =
    record {
      count = count;
      lowest = holds_at IsLowest xs zero_lowest (λ j p. low j (omega (arith, p, count)));
      sign = holds_at IsNotBelowZero xs zero_sign (λ j p. let q : j < n = omega (arith, p, count) in value_not_below (at xs j) (low j q).positive (subst IsNotBelow0 (sym (is_z j q)) (sign j q)));
    }

part_at : (n i : ℕ) (xs : List Fraction) (j : ℕ) → j < n → at (take n (drop i xs)) j ≡ at xs (i + j)
part_at n i xs j h = get_or-take n (drop i xs) j (whole (pos 0)) h ∙ get_or-drop i xs j (whole (pos 0))

-- the prices from variable i on
prices_not_below : (n m i l : ℕ) (t : Table) → IsTable n m t → ((j : ℕ) → j < l → IsNotBelow0 ((tableau_of t).price (i + j))) → AreNotBelowZero l (values_at (reduced_cost_of t) i l)
prices_not_below n m i l t g sign =
    let at_place : (j : ℕ) → j < l → at (values_at (reduced_cost_of t) i l) j ≡ reduced_cost_of t (i + j) = λ j q. listed_from (reduced_cost_of t) i l j q in
    values_not_below l (values_at (reduced_cost_of t) i l) (λ j. (tableau_of t).price (i + j)) (listed_count (reduced_cost_of t) i l)
    (λ j q. subst IsLowest (sym (at_place j q)) (entry_has IsLowest no_entry (with_right t.columns t.labels) t.objective (i + j) zero_lowest g.lowest_price))
    (λ j q. ap value (at_place j q)) sign

-- ---- a row's sum at the values of z
dot_at : (n : ℕ) (a xs : List Fraction) (z : ℕ → Q) → length a ≡ n → ((j : ℕ) → IsLowest (at a j)) → AreNotBelowZero n xs → ((j : ℕ) → j < n → value (at xs j) ≡ z j) → value (plain_dot a xs) ≡ total n (λ j. value (at a j) *Q z j)
dot_at n a xs z wide low g is_z =
    value_dot n a xs wide g.count (λ j. (low j).positive) (λ j. (g.lowest j).positive)
    ∙ total-ext n (λ j. value (at a j) *Q value (at xs j)) (λ j. value (at a j) *Q z j) (λ j q. ap (λ w. value (at a j) *Q w) (is_z j q))

dot_below : (a xs : List Fraction) (n : ℕ) → ((j : ℕ) → IsLowest (at a j)) → AreNotBelowZero n xs → 0 < (plain_dot a xs).denominator
dot_below a xs n low g = dot_positive a xs (λ j. (low j).positive) (λ j. (g.lowest j).positive)

lowest-column : (p : LinearProgram) → IsProgram p → (j i : ℕ) → IsLowest (at (column p j) i)
lowest-column p g j = holds_at IsLowest (column p j) zero_lowest (λ i q. subst IsLowest (sym (listed_at (λ i. at p.coefficients (i * p.variables + j)) p.rows i (omega (arith, q, listed_count (λ i. at p.coefficients (i * p.variables + j)) 0 p.rows)))) (g.coefficients.lowest (i * p.variables + j)))

column_at : (p : LinearProgram) → IsProgram p → (i j : ℕ) → i < p.rows → j < p.variables → (tableau_of (first_table p)).entry i j ≡ value (at (column p j) i)
column_at p g i j h q =
    entry_variable p g i j h q
    ∙ ap value (part_at p.variables (i * p.variables) p.coefficients j q ∙ sym (listed_at (λ i. at p.coefficients (i * p.variables + j)) p.rows i h))

-- ---- the optimum
-- the negation of a product with -1
twice_neg : (x : Q) → neg_Q (x *Q neg_Q 1Q) ≡ x
twice_neg x = ap neg_Q (mul_neg x 1Q ∙ ap neg_Q (mul_1 x)) ∙ neg_neg x

optimum_is : (p : LinearProgram) (t : Table) → IsProgram p → Keeps p t → entering t ≡ None → IsOptimum p (solution p.variables t) (dual p.variables p.rows t) (reduced_costs p.variables t) (value_of t)
optimum_is p t g k h =
    let n = p.variables in
    let m = p.rows in
    let N = n + m in
    let T : Tableau = tableau_of t in
    let f : Row → Fraction = λ row. right_side (length t.labels) row.entries in
    let x : List Fraction = solution n t in
    let y : List Fraction = dual n m t in
    let z : ℕ → Q = point m T N (neg_Q 1Q) in
    let none : (j : ℕ) → j < N → IsNotBelow0 (T.price j) = λ j q. price_sign n m t k.table j q (λ c in_c is_j below. entering_none n m t k.table h c in_c below) in
    let rights : (i : ℕ) → i < m → IsNotBelow0 (neg_Q (T.entry i N *Q neg_Q 1Q)) = λ i q. subst IsNotBelow0 (sym (twice_neg (T.entry i N))) (k.good.right i q) in
    let signs : (j : ℕ) → j < N → IsNotBelow0 (z j) = λ j q. point_sign_other m N T N (neg_Q 1Q) j rights (λ e. omega (arith, q, e)) in
    let right : (own : ℕ → Fraction) (es : List Fraction) → length es ≡ suc n → value (right_side (length t.labels) es) ≡ value (entry_for own (with_right t.columns t.labels) es N) = λ own es wide.
    ap (λ w. value (at es w)) k.table.labels ∙ sym (ap value (right_entry n m t own es k.table wide)) in
    let read : (j : ℕ) → j < n → value (at x j) ≡ z j = λ j q.
    ap value (listed_at (λ j. where_basic f j t.rows) n j q)
    ∙ read_at n m t N (neg_Q 1Q) f j k.table k.good (λ i r. right (own_entry (basic_at t.rows i)) (entries_at t.rows i) (k.table.widths i r) ∙ sym (twice_neg _)) (λ e. omega (arith, q, e)) in
    let lows : (j : ℕ) → j < n → IsLowest (at x j) = λ j q. subst IsLowest (sym (listed_at (λ j. where_basic f j t.rows) n j q)) (where_basic_lowest f j t.rows (λ i r. k.table.lowest i (length t.labels))) in
    let xs : AreNotBelowZero n x = values_not_below n x z (listed_count (λ j. where_basic f j t.rows) 0 n) lows read (λ j q. signs j (omega (arith, q))) in
    let ys : AreNotBelowZero m y = prices_not_below n m n m t k.table (λ j q. none (n + j) (omega (arith, q))) in
    let reads : AreNotBelowZero n (reduced_costs n t) = prices_not_below n m 0 n t k.table (λ j q. none (0 + j) (omega (arith, q))) in
    let solves : Solves m N (tableau_of (first_table p)) z = k.tied.back z (point_solves m N T N (neg_Q 1Q) k.good (omega arith)) in
    let last : z N ≡ neg_Q 1Q = point_outside m N T N (neg_Q 1Q) N (not_basic m N T k.good) ∙ ap (λ w. w *Q neg_Q 1Q) (unit-same N N refl) ∙ one_mul_Q _ in
    let y_at : (i : ℕ) → i < m → value (at y i) ≡ T.price (n + i) = λ i q. ap value (listed_from (reduced_cost_of t) n m i q) in
    let final : value (value_of t) ≡ T.price N = right no_entry t.objective k.table.width in
    record {
      x_sign = xs;
      y_sign = ys;
      reduced_sign = reads;
      value_lowest = k.table.lowest_price (length t.labels);
      holds = λ i q.
          let sum = lone_sum (total n (λ j. value (at (row p i) j) *Q z j)) (z (n + i)) (value (at p.right_sides i)) (subst (λ w. (total n (λ j. value (at (row p i) j) *Q z j) +Q z (n + i)) +Q value (at p.right_sides i) *Q w ≡ 0Q) last (sym (first_row_at p g i q z) ∙ solves i q)) in
          value_at_most (plain_dot (row p i) x) (at p.right_sides i) (dot_below (row p i) x n (lowest-row p g i) xs) (g.right_sides.lowest i).positive
          (subst (λ w. IsAtMost w (value (at p.right_sides i))) (sym (dot_at n (row p i) x z (length-row p g i q) (lowest-row p g i) xs read)) (at_most_of_sum _ (z (n + i)) _ sum (signs (n + i) (omega (arith, q)))));
      reduced_is = λ j q.
          let d = plain_dot (column p j) y in
          let below : 0 < d.denominator = dot_below (column p j) y m (lowest-column p g j) ys in
          let low_c : IsLowest (at p.costs j) = g.costs.lowest j in
          value_same (at (reduced_costs n t) j) (plain_sum d (negated (at p.costs j))) (reads.lowest j).positive (mul-pos below low_c.positive)
          (ap value (listed_at (reduced_cost_of t) n j q)
          ∙ dual_at p T g k.tied j (omega (arith, q))
          ∙ ap (λ w. w +Q (tableau_of (first_table p)).price j)
          (total-ext m _ (λ i. value (at (column p j) i) *Q T.price (n + i)) (λ i r. ap (λ w. w *Q T.price (n + i)) (column_at p g i j r q))
          ∙ sym (dot_at m (column p j) y (λ i. T.price (n + i)) (listed_count _ 0 m) (lowest-column p g j) ys y_at))
          ∙ ap (λ w. value d +Q w) (price_variable p g j q ∙ sym (value_negated (at p.costs j) low_c.positive))
          ∙ sym (value_sum d (negated (at p.costs j)) below low_c.positive));
      earns =
          let same : neg_Q (total n (λ j. value (at p.costs j) *Q z j)) ≡ T.price N *Q neg_Q 1Q = sym (first_price_at p g z) ∙ k.tied.same z solves ∙ point_earns m N T N (neg_Q 1Q) k.good (omega arith) in
          value_same (plain_dot p.costs x) (value_of t) (dot_below p.costs x n g.costs.lowest xs) (k.table.lowest_price (length t.labels)).positive
          (dot_at n p.costs x z g.costs.count g.costs.lowest xs read ∙ same_of_neg _ (T.price N) same ∙ sym final);
      owes =
          value_same (plain_dot p.right_sides y) (value_of t) (dot_below p.right_sides y m g.right_sides.lowest ys) (k.table.lowest_price (length t.labels)).positive
          (dot_at m p.right_sides y (λ i. T.price (n + i)) g.right_sides.count g.right_sides.lowest ys y_at
          ∙ total-ext m _ (λ i. (tableau_of (first_table p)).entry i N *Q T.price (n + i)) (λ i r. ap (λ w. w *Q T.price (n + i)) (sym (entry_right p g i r)))
          ∙ sym (add_0 _) ∙ ap (λ w. total m (λ i. (tableau_of (first_table p)).entry i N *Q T.price (n + i)) +Q w) (sym (price_last p g))
          ∙ sym (dual_at p T g k.tied N (omega arith)) ∙ sym final);
    }

-- ---- the unlimited
below_not_basic : (m n : ℕ) (T : Tableau) → IsFeasible m n T → (e : ℕ) → IsBelow0 (T.price e) → (i : ℕ) → i < m → T.basic i ≡ e → ⊥
below_not_basic m n T g e below i p same =
    let zero : (T.price e).fraction.numerator ≡ pos 0 = zero_has (T.price e) (ap T.price (sym same) ∙ g.priced i p) in
    omega (arith, ints, below, zero)

not_above : (z : ℤ) → (pos 0 <ℤ z → ⊥) → z ≤ℤ pos 0
not_above z h = by_lt_z (pos 0) z (λ p. absurd (h p)) (λ p. p)

-- a fraction whose value is the negation of what is below 0
above_of_neg : (d : Fraction) (w : Q) → 0 < d.denominator → value d ≡ neg_Q w → IsBelow0 w → pos 0 <ℤ d.numerator
above_of_neg d w p e below =
    by_lt_z (pos 0) d.numerator (λ h. h)
    (λ h.
    let turned : IsNotBelow0 (value (negated d)) = not_below_value (negated d) p (turn_sign d.numerator h) in
    let same : value (negated d) ≡ w = value_negated d p ∙ ap neg_Q e ∙ neg_neg w in
    absurd (apart w.fraction.numerator below (subst IsNotBelow0 same turned)))
  where
    turn_sign : (z : ℤ) → z ≤ℤ pos 0 → pos 0 ≤ℤ neg_ℤ z
    turn_sign z h = omega (arith, ints, h)

    apart : (z : ℤ) → z <ℤ pos 0 → pos 0 ≤ℤ z → ⊥
    apart z h k = omega (arith, ints, h, k)

-- an entry of the direction
read_entry : (n m : ℕ) (t : Table) (c : Column) (j : ℕ) → IsTable n m t → IsFeasible m (n + m) (tableau_of t) → Enters n t c → ((i : ℕ) → i < m → basic_at t.rows i ≡ c.label → ⊥) → IsLowest (if nat_eq j c.label then whole (pos 1) else where_basic (λ row. negated (at row.entries c.place)) j t.rows) × (value (if nat_eq j c.label then whole (pos 1) else where_basic (λ row. negated (at row.entries c.place)) j t.rows) ≡ point m (tableau_of t) c.label 1Q j)
read_entry n m t c j g good enters apart = step (nat_eq j c.label) refl
  where
    step : (b : Bool) → nat_eq j c.label ≡ b → IsLowest (if b then whole (pos 1) else where_basic (λ row. negated (at row.entries c.place)) j t.rows) × (value (if b then whole (pos 1) else where_basic (λ row. negated (at row.entries c.place)) j t.rows) ≡ point m (tableau_of t) c.label 1Q j)
    step true h =
        let same : c.label ≡ j = grind (arith, nat_tests) in
        (whole_is_lowest (pos 1), value_one ∙ sym (ap (point m (tableau_of t) c.label 1Q) (sym same) ∙ point_outside m (n + m) (tableau_of t) c.label 1Q c.label apart ∙ ap (λ w. w *Q 1Q) (unit-same c.label c.label refl) ∙ mul_1 1Q))
    step false h =
        let ne : c.label ≡ j → ⊥ = λ q. grind (arith, nat_tests) in (
          where_basic_lowest (λ row. negated (at row.entries c.place)) j t.rows (λ i q. negated_is_lowest _ (g.lowest i c.place)),
          read_at n m t c.label 1Q (λ row. negated (at row.entries c.place)) j g good
              (λ i q. value_negated _ (g.lowest i c.place).positive ∙ ap neg_Q (sym (entry_entering n m t c (own_entry (basic_at t.rows i)) (entries_at t.rows i) g enters (g.widths i q)) ∙ sym (mul_1 _))) ne,
        )

unlimited_holds : (limit : ℕ) (p : LinearProgram) (t : Table) (c : Column) → IsProgram p → Keeps p t → entering t ≡ Some c → pivoted limit c.place t ≡ unlimited → IsDirection p (direction p.variables c t)
unfolding direction
unlimited_holds limit p t c g k enters h =
    let n = p.variables in
    let m = p.rows in
    let N = n + m in
    let T : Tableau = tableau_of t in
    let e = c.label in
    let f : Row → Fraction = λ row. negated (at row.entries c.place) in
    let entry : ℕ → Fraction = λ j. if nat_eq j c.label then whole (pos 1) else where_basic f j t.rows in
    let d : List Fraction = values_at entry 0 n in
    let z : ℕ → Q = point m T e 1Q in
    let column = entering_out n m t c k.table enters in
    let inside = label_inside n m t c k.table column in
    let below = price_entering n m t c k.table column in
    let rows : (i : ℕ) → i < m → IsNotBelow0 (neg_Q (T.entry i e *Q 1Q)) = λ i q. subst IsNotBelow0 (sym (ap neg_Q (mul_1 _))) (neg_not_below (T.entry i e) (not_above _ (λ above. unlimited_is limit n m c.place t k.table (unlimited_out limit c.place t h) i q (subst IsAbove0 (entry_entering n m t c (own_entry (basic_at t.rows i)) (entries_at t.rows i) k.table column (k.table.widths i q)) above)))) in
    let signs : (j : ℕ) → IsNotBelow0 (z j) = λ j. point_sign m N T e 1Q j rows one_not_below in
    let reads : (j : ℕ) → IsLowest (entry j) × (value (entry j) ≡ z j) = λ j. read_entry n m t c j k.table k.good column (below_not_basic m N T k.good e below) in
    let read : (j : ℕ) → j < n → value (at d j) ≡ z j = λ j q. ap value (listed_at entry n j q) ∙ (reads j).1 in
    let ds : AreNotBelowZero n d = values_not_below n d z (listed_count entry 0 n) (λ j q. subst IsLowest (sym (listed_at entry n j q)) (reads j).0) read (λ j q. signs j) in
    let solves : Solves m N (tableau_of (first_table p)) z = k.tied.back z (point_solves m N T e 1Q k.good (omega (arith, inside))) in
    let last : z N ≡ 0Q = point_outside m N T e 1Q N (not_basic m N T k.good) ∙ ap (λ w. w *Q 1Q) (unit-other e N (λ w. omega (arith, w, inside))) ∙ zero_mul_Q _ in
    record {
      sign = ds;
      holds = λ i q.
          let sum = lone_zero (total n (λ j. value (at (row p i) j) *Q z j)) (z (n + i)) (value (at p.right_sides i)) (z N) last (sym (first_row_at p g i q z) ∙ solves i q) in
          value_at_most (plain_dot (row p i) d) (whole (pos 0)) (dot_below (row p i) d n (lowest-row p g i) ds) zero_lowest.positive
          (subst (λ w. IsAtMost w (value (whole (pos 0)))) (sym (dot_at n (row p i) d z (length-row p g i q) (lowest-row p g i) ds read))
          (subst (λ w. IsAtMost (total n (λ j. value (at (row p i) j) *Q z j)) w) (sym value_zero) (at_most_of_sum _ (z (n + i)) 0Q sum (signs (n + i)))));
      earns =
          let same : neg_Q (total n (λ j. value (at p.costs j) *Q z j)) ≡ T.price e = sym (first_price_at p g z) ∙ k.tied.same z solves ∙ point_earns m N T e 1Q k.good (omega (arith, inside)) ∙ mul_1 _ in
          above_of_neg (plain_dot p.costs d) (T.price e) (dot_below p.costs d n g.costs.lowest ds)
          (dot_at n p.costs d z g.costs.count g.costs.lowest ds read ∙ sym (neg_neg _) ∙ ap neg_Q same) below;
    }

-- ---- the theorem
ends_as_said : (p : LinearProgram) (t : Table) (spent : ℕ) → IsProgram p → Keeps p t → entering t ≡ None → IsAsSaid p (read_off p.variables p.rows t spent)
unfolding read_off
ends_as_said p t spent g k h = optimum_is p t g k h

pub ends_are_as_said : EndsAreAsSaid
unfolding run
ends_are_as_said limit p left spent g =
    run_keeps (Keeps p) (IsAsSaid p) limit p.variables p.rows (λ t u c k enters h. keeps_pivot p limit t u c k enters h) (λ t spent k h. ends_as_said p t spent g k h) (λ t c spent k enters h. unlimited_holds limit p t c g k enters h) (λ spent w. tt) (λ spent. tt) left spent (first_table p) (keeps_first p g)
