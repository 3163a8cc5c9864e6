-- The tables of a run pivot by Bland's rule, so no two have the same basic variables.
use Rattle.std.proofs.Common.{◌≡◌, ℕ, zero, suc, ◌+◌, ◌-◌, ◌<◌, ◌≤◌, List, [], ◌∷◌, length, map, get_or, arith, refl, sym, ◌∙◌, ap, subst}
use Rattle.std.specs.Prelude.{Result, Ok, Err, Option, Some, None}
use Rattle.std.proofs.Math.Decide.{ℕ_discrete}
use Rattle.std.specs.List.{Contains}
use Rattle.std.proofs.lemmas.List.{length-map}
use Rattle.std.proofs.lemmas.Option.{same_Some}
use Rattle.exact_num.specs.declared.misfit.Wide.{Wide}
use Rattle.simplex_run.specs.Program.{LinearProgram}
use Rattle.simplex_run.specs.Table.{Row, Table, first_table, basic_at}
use Rattle.simplex_run.specs.Choice.{Ratio, Column, entering, ratios, least}
use Rattle.simplex_run.specs.Run.{PivotEnd, moved, unlimited, stopped, pivoted}
use Rattle.simplex_run.specs.Tableau.{TablesAreFeasible, PivotsAreByBlandsRule, tableau_of, IsBlandPivot}
use Rattle.simplex_run.specs.Optimum.{IsProgram}
use Rattle.simplex_run.specs.Pivots.{moved_to, moved_by, next_table, table_after, basics, HaveSameBasics}
use Rattle.simplex_run.proofs.Entries.{IsTable}
use Rattle.simplex_run.proofs.Choices.{moved_out, bland_pivot}
use Rattle.simplex_run.proofs.Optima.{Keeps, keeps_first, keeps_pivot}
use Rattle.simplex_run.proofs.Bland.{IsIn, HaveSame, Pivots, no_cycle}

-- ---- a pivot of the run is one by Bland's rule
abbrev pub column_of : Option Column → Column
column_of None = record { place = 0; label = 0 }
column_of (Some c) = c

abbrev pub place_of : Result (List Ratio) Wide → ℕ
place_of (Ok []) = 0
place_of (Ok (q ∷ qs)) = (least q qs).place
place_of (Err w) = 0

pub enters_at : Table → ℕ
enters_at t = (column_of (entering t)).label

pub leaves_at : ℕ → Table → ℕ
leaves_at limit t = place_of (ratios limit (length t.labels) (column_of (entering t)).place 0 t.rows)

table_pivot : (p : LinearProgram) (limit : ℕ) (t u : Table) (c : Column) → Keeps p t → entering t ≡ Some c → pivoted limit c.place t ≡ moved u → IsBlandPivot p.rows (p.variables + p.rows) (enters_at t) (leaves_at limit t) (tableau_of t) (tableau_of u)
unfolding enters_at leaves_at
table_pivot p limit t u c k enters h =
    let w = moved_out limit c.place t u h in
    let placed : Column → ℕ = λ d. place_of (ratios limit (length t.labels) d.place 0 t.rows) in
    let is_c : column_of (entering t) ≡ c = ap column_of enters in
    let is_r : placed (column_of (entering t)) ≡ (least w.0 w.1).place = ap placed is_c ∙ ap place_of w.2 in
    let pivoted = (bland_pivot limit p.variables p.rows t u c w.0 w.1 k.table enters w.2 w.3).1 in
    subst (λ (d : Column). IsBlandPivot p.rows (p.variables + p.rows) d.label (placed (column_of (entering t))) (tableau_of t) (tableau_of u)) (sym is_c)
    (subst (λ r. IsBlandPivot p.rows (p.variables + p.rows) c.label r (tableau_of t) (tableau_of u)) (sym is_r) pivoted)

-- ---- the tables
-- the table of an answer, and else the first one
abbrev pub given : LinearProgram → Option Table → Table
given p None = first_table p
given p (Some t) = t

turned_out : (limit : ℕ) (t u : Table) (o : Option Column) → entering t ≡ o → moved_by limit t o ≡ Some u → (c : Column) × (entering t ≡ Some c) × (pivoted limit c.place t ≡ moved u)
turned_out limit t u None h k = cc
turned_out limit t u (Some c) h k = (c, h, step (pivoted limit c.place t) refl k)
  where
    step : (w : PivotEnd) → pivoted limit c.place t ≡ w → moved_to w ≡ Some u → pivoted limit c.place t ≡ moved u
    step (moved v) f l = cc
    step unlimited f l = cc
    step (stopped w) f l = cc

pub next_out : (limit : ℕ) (o : Option Table) (u : Table) → next_table limit o ≡ Some u → (t : Table) × (o ≡ Some t) × (c : Column) × (entering t ≡ Some c) × (pivoted limit c.place t ≡ moved u)
next_out limit None u h = cc
next_out limit (Some t) u h = let w = turned_out limit t u (entering t) refl h in (t, refl, w.0, w.1, w.2)

pub after_suc : (limit : ℕ) (p : LinearProgram) (k : ℕ) → next_table limit (table_after limit p k) ≡ table_after limit p (suc k)
unfolding table_after
after_suc limit p k = refl

pub tables_keep : (limit : ℕ) (p : LinearProgram) → IsProgram p → (k : ℕ) (t : Table) → table_after limit p k ≡ Some t → Keeps p t
unfolding table_after
tables_keep limit p g zero t h = let e : first_table p ≡ t = cc in subst (Keeps p) e (keeps_first p g)
tables_keep limit p g (suc k) t h =
    let w = next_out limit (table_after limit p k) t h in
    keeps_pivot p limit w.0 t w.2 (tables_keep limit p g k w.0 w.1) w.3 w.4

-- the tables before one that is there
pub there_before : (limit : ℕ) (p : LinearProgram) (i j : ℕ) (u : Table) → i ≤ j → table_after limit p j ≡ Some u → (t : Table) × (table_after limit p i ≡ Some t)
unfolding table_after
there_before limit p i zero u low h = let e : 0 ≡ i = omega (arith, low) in (u, subst (λ w. table_after limit p w ≡ Some u) e h)
there_before limit p i (suc j) u low h =
    elim (ℕ_discrete i (suc j)) [
      | yes e ↦ (u, subst (λ w. table_after limit p w ≡ Some u) (sym e) h)
      | no ne ↦ let w = next_out limit (table_after limit p j) u h in there_before limit p i j w.0 (omega (arith, low, ne)) w.1
    ]

unfoldable pub tables : ℕ → LinearProgram → ℕ → ℕ → Table
tables limit p i k = given p (table_after limit p (i + k))

pub tables_are : (limit : ℕ) (p : LinearProgram) (i L : ℕ) (u : Table) → table_after limit p (i + L) ≡ Some u → (k : ℕ) → k ≤ L → table_after limit p (i + k) ≡ Some (tables limit p i k)
unfolding tables
tables_are limit p i L u h k low =
    let w = there_before limit p (i + k) (i + L) u (omega (arith, low)) h in
    w.1 ∙ ap Some (sym (ap (given p) w.1))

step_of : (limit : ℕ) (p : LinearProgram) (i k : ℕ) → IsProgram p → table_after limit p (i + k) ≡ Some (tables limit p i k) → table_after limit p (i + suc k) ≡ Some (tables limit p i (suc k)) → IsBlandPivot p.rows (p.variables + p.rows) (enters_at (tables limit p i k)) (leaves_at limit (tables limit p i k)) (tableau_of (tables limit p i k)) (tableau_of (tables limit p i (suc k)))
step_of limit p i k g here next =
    let e : i + suc k ≡ suc (i + k) = omega arith in
    let w = next_out limit (table_after limit p (i + k)) (tables limit p i (suc k)) (after_suc limit p (i + k) ∙ ap (table_after limit p) (sym e) ∙ next) in
    let same : w.0 ≡ tables limit p i k = same_Some _ _ (sym w.1 ∙ here) in
    table_pivot p limit (tables limit p i k) (tables limit p i (suc k)) w.2 (tables_keep limit p g (i + k) (tables limit p i k) here) (subst (λ (t : Table). entering t ≡ Some w.2) same w.3) (subst (λ (t : Table). pivoted limit w.2.place t ≡ moved (tables limit p i (suc k))) same w.4)

pivots_of : (limit : ℕ) (p : LinearProgram) (i L : ℕ) (u : Table) → IsProgram p → table_after limit p (i + L) ≡ Some u → Pivots p.rows (p.variables + p.rows) L (λ k. tableau_of (tables limit p i k))
pivots_of limit p i L u g h =
    record {
      e = λ k. enters_at (tables limit p i k);
      r = λ k. leaves_at limit (tables limit p i k);
      good = λ k low. (tables_keep limit p g (i + k) (tables limit p i k) (tables_are limit p i L u h k low)).good;
      step = λ k low. step_of limit p i k g (tables_are limit p i L u h k (omega (arith, low))) (tables_are limit p i L u h (suc k) low);
    }

basic_is : (rows : List Row) (k j : ℕ) → k < length rows → get_or (map (λ (row : Row). row.basic) rows) k j ≡ basic_at rows k
basic_is [] k j h = absurd (omega (arith, h))
basic_is (row ∷ rows) zero j h = refl
basic_is (row ∷ rows) (suc k) j h = basic_is rows k j (omega (arith, h))

pub contains_in : (n m : ℕ) (t : Table) → IsTable n m t → (j : ℕ) → Contains (basics t) j → IsIn m (tableau_of t) j
contains_in n m t g j h =
    let long = length-map t.rows (λ (row : Row). row.basic) in
    let low : h.0 < length t.rows = omega (arith, h.1, long) in
    (h.0, omega (arith, low, g.count), sym (basic_is t.rows h.0 j low) ∙ h.2)

pub in_contains : (n m : ℕ) (t : Table) → IsTable n m t → (j : ℕ) → IsIn m (tableau_of t) j → Contains (basics t) j
in_contains n m t g j h =
    let long = length-map t.rows (λ (row : Row). row.basic) in
    let low : h.0 < length t.rows = omega (arith, h.1, g.count) in
    (h.0, omega (arith, low, long), basic_is t.rows h.0 j low ∙ h.2)

pub same_in : (n m : ℕ) (t u : Table) → IsTable n m t → IsTable n m u → HaveSameBasics t u → HaveSame m (tableau_of t) (tableau_of u)
same_in n m t u g h same =
    record {
      there = λ j w. contains_in n m u h j ((same j).0 (in_contains n m t g j w));
      back = λ j w. contains_in n m t g j ((same j).1 (in_contains n m u h j w));
    }

-- with one limit
pub basics_differ_at : (limit : ℕ) (p : LinearProgram) (i j : ℕ) (t u : Table) → IsProgram p → i < j → table_after limit p i ≡ Some t → table_after limit p j ≡ Some u → HaveSameBasics t u → ⊥
unfolding tables
basics_differ_at limit p i j t u g less at_i at_j same =
    let L = j - i in
    let is_j : j ≡ i + L = omega (arith, less) in
    let is_i : i + 0 ≡ i = omega arith in
    let there : table_after limit p (i + L) ≡ Some u = subst (λ w. table_after limit p w ≡ Some u) is_j at_j in
    let first : tables limit p i 0 ≡ t = ap (given p) (ap (table_after limit p) is_i ∙ at_i) in
    let last : tables limit p i L ≡ u = ap (given p) there in
    let k = (tables_keep limit p g i t at_i).table in
    let l = (tables_keep limit p g j u at_j).table in
    no_cycle p.rows (p.variables + p.rows) L (λ k. tableau_of (tables limit p i k)) (pivots_of limit p i L u g there) (omega (arith, less))
    (subst (λ w. HaveSame p.rows (tableau_of w) (tableau_of (tables limit p i L))) (sym first) (subst (λ w. HaveSame p.rows (tableau_of t) (tableau_of w)) (sym last) (same_in p.variables p.rows t u k l same)))

-- ---- what the run has to do with the tableau
pub tables_are_feasible : TablesAreFeasible
tables_are_feasible limit k p t g h = let kept = tables_keep limit p g k t h in record { feasible = kept.good; same = kept.tied }

pub pivots_are_by_blands_rule : PivotsAreByBlandsRule
pivots_are_by_blands_rule limit k p t u g here next =
    let w = next_out limit (table_after limit p k) u (after_suc limit p k ∙ next) in
    let same : w.0 ≡ t = same_Some _ _ (sym w.1 ∙ here) in (
      enters_at t,
      leaves_at limit t,
      table_pivot p limit t u w.2 (tables_keep limit p g k t here) (subst (λ (s : Table). entering s ≡ Some w.2) same w.3) (subst (λ (s : Table). pivoted limit w.2.place s ≡ moved u) same w.4),
    )
