-- The rows of an arena as rows: the denominator first, then the numbers, the right side last.
use Rattle.std.specs.Prelude.{◌≡◌, ℕ, ◌+◌, ◌<◌, ◌≤◌, List, [], ◌∷◌, ◌++◌, take, drop, map, length, ℤ, pos, unsigned_abs, slice_index_or, if◌then◌else◌, nat_eq, int_lt, true}
use Rattle.exact_num.specs.Fraction.{whole}
use Rattle.fraction_tableau.specs.Nonzero.{nonzero_places}
use Rattle.run_equivalence.specs.IntegerRows.{IntegerRow, WholeRow, IsIntegerRow, integer_row, row_size, whole_row, number_at}
use Rattle.run_equivalence.specs.WholePivoting.{step_size, row_eliminated, exchanged_in}

-- the row of w numbers at the front of a row
abbrev pub row_in : ℕ → List ℤ → IntegerRow
row_in w row = integer_row (unsigned_abs (number_at row 0)) (take w (drop 1 row))

abbrev pub integer_rows_in : ℕ → List (List ℤ) → List IntegerRow
integer_rows_in w rows = map (row_in w) rows

abbrev pub row_at : List (List ℤ) → ℕ → List ℤ
row_at rows i = slice_index_or rows i []

-- the rows with their basic variables
abbrev pub beside_basics : List ℕ → List IntegerRow → List WholeRow
beside_basics [] lines = []
beside_basics (b ∷ bs) [] = []
beside_basics (b ∷ bs) (l ∷ lines) = whole_row b l ∷ beside_basics bs lines

-- each row holds a row within the bound
abbrev pub AreRowsIn : ℕ → ℕ → List (List ℤ) → Type 0
AreRowsIn bound w rows = (i : ℕ) → i < length rows → IsIntegerRow bound w (row_in w (row_at rows i))

-- the places where the numbers are not 0
abbrev pub nonzero_in : List ℤ → List ℕ
nonzero_in zs = nonzero_places (map whole zs)

-- the places and one more, where its number is not 0
abbrev pub with_place : ℕ → ℤ → List ℕ → List ℕ
with_place j z places = let more = places ++ j ∷ [] in if nat_eq (unsigned_abs z) 0 then places else more

-- the numbers of the rows in column c
abbrev pub column_in : ℕ → List (List ℤ) → List ℤ
column_in c rows = map (λ row. number_at row (c + 1)) rows

-- ---- an old row and the new one, which column c is eliminated from by pivot numbers up to `most` whose own is a: each
-- step is within the limit
pub record IsEliminated (limit c a most : ℕ) (pivot : List ℤ) (old new : IntegerRow) : Type 0 where
  pub fits : step_size (row_size old) (unsigned_abs (number_at old.numbers c)) a most ≤ limit
  pub is : new ≡ row_eliminated c a pivot old

-- each row but row r is so
abbrev pub AreEliminated : ℕ → ℕ → ℕ → ℕ → ℕ → ℕ → List ℤ → List (List ℤ) → List (List ℤ) → Type 0
AreEliminated limit w c r a most pivot old new =
    (i : ℕ) → i < length old → (i ≡ r → ⊥) → IsEliminated limit c a most pivot (row_in w (row_at old i)) (row_in w (row_at new i))

-- ---- the rows and the objective row of a pivot where column c enters in row r, from which row l leaves
abbrev pub pivot_row_after : ℕ → ℕ → IntegerRow → IntegerRow
pivot_row_after c a l = integer_row a (exchanged_in c l)

pub record IsPivoted (limit w c r : ℕ) (l : IntegerRow) (old : List (List ℤ)) (before : List ℤ) (new : List (List ℤ)) (last : List ℤ) : Type 0 where
  pub count : length new ≡ length old
  pub pivot : row_in w (row_at new r) ≡ pivot_row_after c (unsigned_abs (number_at l.numbers c)) l
  pub rows : AreEliminated limit w c r (unsigned_abs (number_at l.numbers c)) (row_size l) (exchanged_in c l) old new
  pub objective : IsEliminated limit c (unsigned_abs (number_at l.numbers c)) (row_size l) (exchanged_in c l) (row_in w before) (row_in w last)

-- row r is there, and its number in column c is above 0
pub record IsPivot (w c r : ℕ) (rows : List (List ℤ)) : Type 0 where
  pub column : c < w
  pub row : r < length rows
  pub above : int_lt (pos 0) (number_at (row_in w (row_at rows r)).numbers c) ≡ true
