-- The tables of a run, pivot by pivot, and that no two of them have the same basic variables.
use Rattle.std.specs.Prelude.{◌≡◌, ℕ, zero, suc, ◌<◌, List, map, Option, Some, None}
use Rattle.std.specs.List.{Contains}
use Rattle.simplex_run.specs.Program.{LinearProgram}
use Rattle.simplex_run.specs.Table.{Table, Row, first_table}
use Rattle.simplex_run.specs.Choice.{Column, entering}
use Rattle.simplex_run.specs.Run.{PivotEnd, moved, unlimited, stopped, pivoted}
use Rattle.simplex_run.specs.Optimum.{IsProgram}

-- the table of a pivot that found one
abbrev pub moved_to : PivotEnd → Option Table
moved_to (moved u) = Some u
moved_to unlimited = None
moved_to (stopped w) = None

abbrev pub moved_by : ℕ → Table → Option Column → Option Table
moved_by limit t None = None
moved_by limit t (Some c) = moved_to (pivoted limit c.place t)

abbrev pub next_table : ℕ → Option Table → Option Table
next_table limit None = None
next_table limit (Some t) = moved_by limit t (entering t)

-- the table after k pivots, where there are as many and they fit
unfoldable pub table_after : ℕ → LinearProgram → ℕ → Option Table
table_after limit p zero = Some (first_table p)
table_after limit p (suc k) = next_table limit (table_after limit p k)

-- the table after k pivots without a limit: that with a limit which they fit
abbrev pub IsTableAfter : LinearProgram → ℕ → Table → Type 0
IsTableAfter p k t = (limit : ℕ) × (table_after limit p k ≡ Some t)

abbrev pub basics : Table → List ℕ
basics t = map (λ (row : Row). row.basic) t.rows

-- the same set of basic variables
abbrev pub HaveSameBasics : Table → Table → Type 0
HaveSameBasics t u =
    (j : ℕ) → (Contains (basics t) j → Contains (basics u) j) × (Contains (basics u) j → Contains (basics t) j)

-- the tables of a run without a limit have pairwise different sets of basic variables
abbrev pub BasicsDiffer : Type 0
BasicsDiffer =
    (p : LinearProgram) (i j : ℕ) (t u : Table) → IsProgram p → i < j
    → IsTableAfter p i t → IsTableAfter p j u → HaveSameBasics t u → ⊥
