-- As many units as there are ways to choose the basic variables are enough.
use Rattle.std.proofs.Common.{◌≡◌, ℕ, zero, suc, ◌+◌, ◌<◌, ◌≤◌, arith, refl, sym, ◌∙◌, ap, subst, true, inl, inr}
use Rattle.std.specs.Prelude.{Option, Some, None}
use Rattle.std.proofs.Math.Decide.{ℕ_discrete}
use Rattle.std.proofs.lemmas.Bool.{cases_lt}
use Rattle.simplex_run.specs.Program.{LinearProgram}
use Rattle.simplex_run.specs.Table.{Table, first_table, basic_at}
use Rattle.simplex_run.specs.Choice.{Column, entering}
use Rattle.simplex_run.specs.Ending.{no_unit_left, unbounded, wide_at}
use Rattle.simplex_run.specs.Run.{PivotEnd, moved, unlimited, stopped, pivoted, run, run_from, read_off, on_entering, on_pivot, direction}
use Rattle.simplex_run.specs.Optimum.{IsProgram}
use Rattle.simplex_run.specs.Pivots.{table_after, HaveSameBasics}
use Rattle.simplex_run.specs.Choose.{choose, UnitsSuffice}
use Rattle.simplex_run.specs.Tableau.{tableau_of}
use Rattle.simplex_run.proofs.Ends.{apart_of_good}
use Rattle.simplex_run.proofs.Optima.{Keeps}
use Rattle.simplex_run.proofs.Tables.{tables_keep, tables, tables_are, contains_in, in_contains, basics_differ_at, after_suc}
use Rattle.simplex_run.proofs.Counting.{count, rank, rank_below, rank_tells, among, among_is, among_out, count_among, pigeons}

-- ---- the tables of a run that ends for want of units
no_optimum : (n m : ℕ) (t : Table) (spent u : ℕ) → read_off n m t spent ≡ no_unit_left u → ⊥
unfolding read_off
no_optimum n m t spent u h = cc

next_is : (limit : ℕ) (p : LinearProgram) (k : ℕ) (c : Column) (t v : Table) → table_after limit p k ≡ Some t → entering t ≡ Some c → pivoted limit c.place t ≡ moved v → table_after limit p (suc k) ≡ Some v
next_is limit p k c t v here enters step = sym (after_suc limit p k) ∙ rw (here, enters, step) refl

budget_out : (limit : ℕ) (p : LinearProgram) (left spent k : ℕ) (t : Table) (u : ℕ) → table_after limit p k ≡ Some t → run_from limit p.variables p.rows left spent t ≡ no_unit_left u → (v : Table) × (table_after limit p (k + left) ≡ Some v)
unfolding run_from
budget_out limit p zero spent k t u here h = let e : k + 0 ≡ k = omega arith in (t, ap (table_after limit p) e ∙ here)
budget_out limit p (suc left) spent k t u here h = step (entering t) refl h (λ v there goes. budget_out limit p left (spent + 1) (suc k) v u there goes)
  where
    act : (c : Column) → entering t ≡ Some c → (w : PivotEnd) → pivoted limit c.place t ≡ w → on_pivot w (λ next. run_from limit p.variables p.rows left (spent + 1) next) (unbounded (direction p.variables c t) (spent + 1)) (λ w. wide_at (spent + 1) w) ≡ no_unit_left u → (v : Table) × (table_after limit p (suc k) ≡ Some v) × (run_from limit p.variables p.rows left (spent + 1) v ≡ no_unit_left u)
    act c enters (moved v) pivots goes = (v, next_is limit p k c t v here enters pivots, goes)
    act c enters unlimited pivots goes = cc
    act c enters (stopped w) pivots goes = cc

    step : (o : Option Column) → entering t ≡ o → on_entering o (read_off p.variables p.rows t spent) (λ c. on_pivot (pivoted limit c.place t) (λ next. run_from limit p.variables p.rows left (spent + 1) next) (unbounded (direction p.variables c t) (spent + 1)) (λ w. wide_at (spent + 1) w)) ≡ no_unit_left u → ((v : Table) → table_after limit p (suc k) ≡ Some v → run_from limit p.variables p.rows left (spent + 1) v ≡ no_unit_left u → (z : Table) × (table_after limit p (suc k + left) ≡ Some z)) → (v : Table) × (table_after limit p (k + suc left) ≡ Some v)
    step None enters goes later = absurd (no_optimum p.variables p.rows t spent u goes)
    step (Some c) enters goes later =
        let w = act c enters (pivoted limit c.place t) refl goes in
        let r = later w.0 w.1 w.2 in
        let same : k + suc left ≡ suc k + left = omega arith in
        (r.0, ap (table_after limit p) same ∙ r.1)

-- ---- a number for each table
key : (p : LinearProgram) → Table → ℕ
key p t = rank (p.variables + p.rows) (among p.rows (basic_at t.rows)) p.rows

counted : (p : LinearProgram) (t : Table) → Keeps p t → count (p.variables + p.rows) (among p.rows (basic_at t.rows)) ≡ p.rows
counted p t k = count_among (p.variables + p.rows) p.rows (basic_at t.rows) k.good.inside (apart_of_good p.rows (p.variables + p.rows) (tableau_of t) k.good)

key_below : (p : LinearProgram) (t : Table) → Keeps p t → key p t < choose (p.variables + p.rows) p.rows
unfolding key
key_below p t k = rank_below (p.variables + p.rows) (among p.rows (basic_at t.rows)) p.rows (counted p t k)

key_tells : (p : LinearProgram) (t u : Table) → Keeps p t → Keeps p u → key p t ≡ key p u → HaveSameBasics t u
unfolding key
key_tells p t u k l same j =
    let m = p.rows in
    let n = p.variables + p.rows in
    let agree = rank_tells n (among m (basic_at t.rows)) (among m (basic_at u.rows)) m (counted p t k) (counted p u l) same in (
      λ w.
          let a = contains_in p.variables m t k.table j w in
          let low : j < n = subst (λ z. z < n) a.2 (k.good.inside a.0 a.1) in
          let here : among m (basic_at t.rows) j ≡ true = subst (λ z. among m (basic_at t.rows) z ≡ true) a.2 (among_is m (basic_at t.rows) a.0 a.1) in
          in_contains p.variables m u l.table j (among_out m (basic_at u.rows) j (sym (agree j low) ∙ here)),
      λ w.
          let a = contains_in p.variables m u l.table j w in
          let low : j < n = subst (λ z. z < n) a.2 (l.good.inside a.0 a.1) in
          let here : among m (basic_at u.rows) j ≡ true = subst (λ z. among m (basic_at u.rows) z ≡ true) a.2 (among_is m (basic_at u.rows) a.0 a.1) in
          in_contains p.variables m t k.table j (among_out m (basic_at t.rows) j (agree j low ∙ here)),
    )

back_same : (t u : Table) → HaveSameBasics t u → HaveSameBasics u t
back_same t u h j = ((h j).1, (h j).0)

-- the tables up to the last are all different
pub tables_count : (limit : ℕ) (p : LinearProgram) (L : ℕ) (v : Table) → IsProgram p → table_after limit p L ≡ Some v → L < choose (p.variables + p.rows) p.rows
unfolding tables
tables_count limit p L v g last =
    let zero_L : 0 + L ≡ L = omega arith in
    let there : table_after limit p (0 + L) ≡ Some v = ap (table_after limit p) zero_L ∙ last in
    let is_table : (k : ℕ) → k ≤ L → table_after limit p k ≡ Some (tables limit p 0 k) = λ k low. let e : 0 + k ≡ k = omega arith in ap (table_after limit p) (sym e) ∙ tables_are limit p 0 L v there k low in
    let keeps : (k : ℕ) → k ≤ L → Keeps p (tables limit p 0 k) = λ k low. tables_keep limit p g k (tables limit p 0 k) (is_table k low) in
    let enough : suc L ≤ choose (p.variables + p.rows) p.rows =
    pigeons (choose (p.variables + p.rows) p.rows) (suc L) (λ k. key p (tables limit p 0 k)) (λ k low. key_below p (tables limit p 0 k) (keeps k (omega (arith, low))))
    (λ i k low high same. elim (ℕ_discrete i k) [
      | yes e ↦ e
      | no ne ↦
          let sets = key_tells p (tables limit p 0 i) (tables limit p 0 k) (keeps i (omega (arith, low))) (keeps k (omega (arith, high))) same in
          elim (cases_lt i k) [
            | inl less ↦ absurd (basics_differ_at limit p i k (tables limit p 0 i) (tables limit p 0 k) g less (is_table i (omega (arith, low))) (is_table k (omega (arith, high))) sets)
            | inr more ↦ absurd (basics_differ_at limit p k i (tables limit p 0 k) (tables limit p 0 i) g (omega (arith, more, ne)) (is_table k (omega (arith, high))) (is_table i (omega (arith, low))) (back_same (tables limit p 0 i) (tables limit p 0 k) sets))
          ]
    ]) in
    omega (arith, enough)

first_is : (limit : ℕ) (p : LinearProgram) → table_after limit p 0 ≡ Some (first_table p)
unfolding table_after
first_is limit p = refl

pub units_suffice : UnitsSuffice
unfolding run
units_suffice limit p left spent u g h =
    let w = budget_out limit p left spent 0 (first_table p) u (first_is limit p) h in
    let e : 0 + left ≡ left = omega arith in
    tables_count limit p left w.0 g (ap (table_after limit p) (sym e) ∙ w.1)
