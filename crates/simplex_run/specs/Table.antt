-- A table: the dictionary of a linear program, with a column for each variable that is not basic.
-- (Chvatal, Linear Programming, chapters 2 and 3.)
use Rattle.std.specs.Prelude.{ℕ, zero, suc, ◌+◌, List, [], ◌∷◌, ◌++◌, map, pos, slice_index_or, if◌then◌else◌, nat_eq}
use Rattle.exact_num.specs.Fraction.{Fraction, whole, negated}
use Rattle.simplex_run.specs.Places.{fraction_zero, at, values_at, numbers}
use Rattle.simplex_run.specs.Program.{LinearProgram, row}

-- a row: the variable that is basic in it, and its entries, the right side last
pub record Row : Type 0 where
  pub basic : ℕ
  pub entries : List Fraction

-- the label of a column is its variable, and the labels stand in any order; each row has an entry
-- for each column, and its right side after them. `columns` counts all variables, basic or not
pub record Table : Type 0 where
  pub columns : ℕ
  pub labels : List ℕ
  pub rows : List Row
  pub objective : List Fraction

abbrev pub row_of : ℕ → List Fraction → Row
row_of basic entries = record { basic = basic; entries = entries }

abbrev pub label_at : List ℕ → ℕ → ℕ
label_at labels k = slice_index_or labels k 0

-- the right side is counted as the variable after the last
abbrev pub with_right : ℕ → List ℕ → List ℕ
with_right columns labels = labels ++ (columns ∷ [])

abbrev pub right_side : ℕ → List Fraction → Fraction
right_side width entries = at entries width

-- the entries of row i, and the variable that is basic in it
abbrev pub entries_at : List Row → ℕ → List Fraction
entries_at [] i = []
entries_at (row ∷ rows) zero = row.entries
entries_at (row ∷ rows) (suc i) = entries_at rows i

abbrev pub basic_at : List Row → ℕ → ℕ
basic_at [] i = 0
basic_at (row ∷ rows) zero = row.basic
basic_at (row ∷ rows) (suc i) = basic_at rows i

-- f of the row where variable j is basic, else 0
unfoldable pub where_basic : (Row → Fraction) → ℕ → List Row → Fraction
where_basic f j [] = fraction_zero
where_basic f j (row ∷ rows) = let later = where_basic f j rows in if nat_eq row.basic j then f row else later

-- ---- the columns of basic variables, which are not written out
-- the entry of variable j: that of its column, or else what `own` says
unfoldable pub entry_for : {A : Type 0} → (ℕ → A) → List ℕ → List A → ℕ → A
entry_for own [] xs j = own j
entry_for own (v ∷ vs) [] j = own j
entry_for own (v ∷ vs) (x ∷ xs) j = let later = entry_for own vs xs j in if nat_eq v j then x else later

-- in its own row a basic variable has 1, and 0 in the others and in the objective
abbrev pub own_entry : ℕ → ℕ → Fraction
own_entry basic j = if nat_eq basic j then whole (pos 1) else fraction_zero

abbrev pub no_entry : ℕ → Fraction
no_entry j = fraction_zero

-- ---- the first table: a column for each variable, and the slacks basic
abbrev pub first_row : LinearProgram → ℕ → Row
first_row p i = row_of (p.variables + i) (row p i ++ (at p.right_sides i ∷ []))

unfoldable pub first_table : LinearProgram → Table
first_table p =
    record {
      columns = p.variables + p.rows;
      labels = numbers 0 p.variables;
      rows = values_at (first_row p) 0 p.rows;
      objective = map negated p.costs ++ (fraction_zero ∷ []);
    }
