-- The simplex method as textbooks say it, over the rationals and without a limit: a tableau, a pivot
-- of it, and Bland's rule. (Chvatal, Linear Programming, chapters 2, 3 and 8.)
use Rattle.std.specs.Prelude.{◌≡◌, ℕ, suc, ◌+◌, ◌<◌, ◌≤◌, Some}
use Rattle.exact_num.specs.Rationals.{Q, ◌+Q◌, ◌*Q◌, neg_Q, inv_Q, 0Q, value, IsNotBelow0, IsAbove0, IsBelow0, IsAtMost, total, unit}
use Rattle.simplex_run.specs.Program.{LinearProgram}
use Rattle.simplex_run.specs.Table.{Table, entries_at, basic_at, with_right, entry_for, own_entry, no_entry, first_table}
use Rattle.simplex_run.specs.Optimum.{IsProgram}
use Rattle.simplex_run.specs.Pivots.{table_after}

-- ---- the tableau
-- the entry of each row in each column, the right side in column n; the basic variables; the
-- objective row
pub record Tableau : Type 0 where
  pub entry : ℕ → ℕ → Q
  pub basic : ℕ → ℕ
  pub price : ℕ → Q

-- each basic column is a unit column with price 0, the basic variables are columns, and no right
-- side is below 0
pub record IsFeasible (m n : ℕ) (T : Tableau) : Type 0 where
  pub unit_columns : (i k : ℕ) → i < m → k < m → T.entry i (T.basic k) ≡ unit i k
  pub priced : (k : ℕ) → k < m → T.price (T.basic k) ≡ 0Q
  pub inside : (k : ℕ) → k < m → T.basic k < n
  pub right : (i : ℕ) → i < m → IsNotBelow0 (T.entry i n)

-- row i's right side over its entry in column e
abbrev pub ratio : Tableau → ℕ → ℕ → ℕ → Q
ratio T n e i = T.entry i n *Q inv_Q (T.entry i e)

-- column e may enter in row r, whose ratio is least
pub record IsPivot (m n e r : ℕ) (T : Tableau) : Type 0 where
  pub row : r < m
  pub column : e < n
  pub above : IsAbove0 (T.entry r e)
  pub below : IsBelow0 (T.price e)
  pub least : (i : ℕ) → i < m → IsAbove0 (T.entry i e) → IsAtMost (ratio T n e r) (ratio T n e i)

-- U is T after column e entered in row r
pub record IsAfterPivot (m n e r : ℕ) (T U : Tableau) : Type 0 where
  pub pivot : (j : ℕ) → j ≤ n → U.entry r j ≡ T.entry r j *Q inv_Q (T.entry r e)
  pub others : (i j : ℕ) → i < m → (i ≡ r → ⊥) → j ≤ n → U.entry i j ≡ T.entry i j +Q neg_Q (T.entry i e *Q U.entry r j)
  pub prices : (j : ℕ) → j ≤ n → U.price j ≡ T.price j +Q neg_Q (T.price e *Q U.entry r j)
  pub enters : U.basic r ≡ e
  pub stays : (i : ℕ) → i < m → (i ≡ r → ⊥) → U.basic i ≡ T.basic i

-- a pivot by Bland's rule: the first column with a price below 0 enters, and of the least ratios the
-- smallest basic variable leaves
pub record IsBlandPivot (m n e r : ℕ) (T U : Tableau) : Type 0 where
  pub choice : IsPivot m n e r T
  pub pivoted : IsAfterPivot m n e r T U
  pub first : (j : ℕ) → j < e → IsNotBelow0 (T.price j)
  pub ties : (i : ℕ) → i < m → IsAbove0 (T.entry i e) → ratio T n e r ≡ ratio T n e i → T.basic r ≤ T.basic i

-- ---- the solutions of a table's rows, (x, s, -1) or (d, t, 0)
unfoldable pub row_at : ℕ → (ℕ → Q) → (ℕ → Q) → Q
row_at n a z = total (suc n) (λ j. a j *Q z j)

abbrev pub Solves : ℕ → ℕ → Tableau → (ℕ → Q) → Type 0
Solves m n T z = (i : ℕ) → i < m → row_at n (T.entry i) z ≡ 0Q

-- the two tables have the same solutions, and on these the same objective
pub record HaveSameSolutions (m n : ℕ) (T U : Tableau) : Type 0 where
  pub forth : (z : ℕ → Q) → Solves m n T z → Solves m n U z
  pub back : (z : ℕ → Q) → Solves m n U z → Solves m n T z
  pub same : (z : ℕ → Q) → Solves m n T z → row_at n T.price z ≡ row_at n U.price z

-- ---- what the run has to do with it
-- the tableau of a table: the columns of its basic variables written out
abbrev pub tableau_of : Table → Tableau
tableau_of t =
    record {
      entry = λ i j. value (entry_for (own_entry (basic_at t.rows i)) (with_right t.columns t.labels) (entries_at t.rows i) j);
      basic = λ i. basic_at t.rows i;
      price = λ j. value (entry_for no_entry (with_right t.columns t.labels) t.objective j);
    }

-- the tables of a run are feasible, and have the solutions of the first one and on these its
-- objective
pub record IsTableOf (p : LinearProgram) (t : Table) : Type 0 where
  pub feasible : IsFeasible p.rows (p.variables + p.rows) (tableau_of t)
  pub same : HaveSameSolutions p.rows (p.variables + p.rows) (tableau_of (first_table p)) (tableau_of t)

abbrev pub TablesAreFeasible : Type 0
TablesAreFeasible = (limit k : ℕ) (p : LinearProgram) (t : Table) → IsProgram p → table_after limit p k ≡ Some t → IsTableOf p t

-- and each pivot of a run is one by Bland's rule
abbrev pub PivotsAreByBlandsRule : Type 0
PivotsAreByBlandsRule =
    (limit k : ℕ) (p : LinearProgram) (t u : Table) → IsProgram p
    → table_after limit p k ≡ Some t → table_after limit p (suc k) ≡ Some u
    → (e : ℕ) × (r : ℕ) × IsBlandPivot p.rows (p.variables + p.rows) e r (tableau_of t) (tableau_of u)
