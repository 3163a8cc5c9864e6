-- What the table of the code stands for.
use Rattle.std.specs.Prelude.{◌≡◌, ℕ, ◌+◌, ◌≤◌, List, [], ◌∷◌, ◌++◌, ℤ, pos, neg_ℤ, length, take, if◌then◌else◌, nat_eq, true, Some, None}
use Rattle.exact_num.specs.Fraction.{Fraction, whole, reduced}
use Rattle.run_equivalence.specs.IntegerRows.{IsIntegerRow, number_at, taken_in, widest, IntegerTable}
use Rattle.run_equivalence.specs.WholeRunning.{whole_where_basic}
use Rattle.simplex_run.specs.Choice.{Column}
use Rattle.run_equivalence.specs.WholePivoting.{whole_pivot, pivot_fits}
use Rattle.integer_tableau.specs.declared.table.WholeTable.{WholeTable}
use Rattle.integer_tableau.specs.declared.pivot_end.PivotEnd.{PivotEnd}
use Rattle.integer_tableau.specs.declared.pivot_end.PivotEnd.TheVariants.{Moved, Unlimited, GivenUp}
use Rattle.integer_tableau.specs.Rows.{row_in, integer_rows_in, beside_basics, column_in, nonzero_in}
use Rattle.integer_tableau.specs.Stored.{AreKept, rows_in}

-- as many numbers a row as there are columns, and the right side
abbrev pub width_of : WholeTable → ℕ
width_of t = length t.labels.items + 1

abbrev pub table_of : List ℕ → List ℕ → List (List ℤ) → List ℤ → IntegerTable
table_of labels basics rows objective =
    record {
      columns = length labels + length basics;
      labels = labels;
      rows = beside_basics basics (integer_rows_in (length labels + 1) rows);
      objective = row_in (length labels + 1) objective;
    }

abbrev pub as_whole : WholeTable → IntegerTable
as_whole t = table_of t.labels.items t.basics.items (rows_in t.rows) t.objective.numbers.items

-- each row and the objective row are within the limit, and each is at most the size that is kept
-- with it
abbrev pub IsWithin : ℕ → WholeTable → Type 0
IsWithin limit t = AreKept limit (width_of t) t.rows t.objective

-- ---- room
abbrev pub room_of : WholeTable → ℕ
room_of t = length t.rows.short.rows + t.rows.short.spare

pub record SameRoom (old new : WholeTable) : Type 0 where
  pub rows : room_of new ≡ room_of old
  pub width : new.rows.short.width ≡ old.rows.short.width

pub record SameShape (old new : WholeTable) : Type 0 where
  pub columns : length new.labels.items ≡ length old.labels.items
  pub rows : length new.basics.items ≡ length old.basics.items
  pub room : SameRoom old new

-- ---- count rows are listed: those that are not 0 in column c
pub record IsListed (c count : ℕ) (t : WholeTable) : Type 0 where
  pub places : take count t.column_places.items ≡ nonzero_in (column_in c (rows_in t.rows))
  pub inside : count ≤ length t.column_places.items

-- ---- a pivot: the table after it, where it is not given up
abbrev pub IsPivotEnd : ℕ → ℕ → PivotEnd → WholeTable → WholeTable → Type 0
IsPivotEnd limit c Moved old new =
    (whole_pivot c (as_whole old) ≡ Some (as_whole new)) × (pivot_fits limit c (as_whole old) ≡ true) × IsWithin limit new
IsPivotEnd limit c Unlimited old new = (whole_pivot c (as_whole old) ≡ None) × (as_whole new ≡ as_whole old) × IsWithin limit new
IsPivotEnd limit c GivenUp old new = Unit {0}

-- ---- the table with one row more
pub record HasRow (entries : List Fraction) (basic : ℕ) (old new : WholeTable) : Type 0 where
  pub basics : new.basics.items ≡ old.basics.items ++ basic ∷ []
  pub row : List ℤ
  pub rows : rows_in new.rows ≡ rows_in old.rows ++ row ∷ []
  pub line : row_in (width_of old) row ≡ taken_in entries
  pub within : IsIntegerRow widest (width_of old) (row_in (width_of old) row)

-- what a step of 1 in the column changes in variable j
abbrev pub direction_entry : Column → IntegerTable → ℕ → Fraction
direction_entry c t j =
    if nat_eq j c.label then whole (pos 1)
    else whole_where_basic (λ row. reduced (neg_ℤ (number_at row.line.numbers c.place)) row.line.denominator) j t.rows
