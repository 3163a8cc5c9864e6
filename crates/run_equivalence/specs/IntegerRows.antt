-- Rows of whole numbers, each over one denominator, and the rows of fractions that they stand for.
use Rattle.std.specs.Prelude.{◌≡◌, ℕ, suc, ◌*◌, ◌/◌, ◌^◌, ◌-◌, ◌<◌, ◌≤◌, List, [], ◌∷◌, map, length, ℤ, pos, slice_index_or, unsigned_abs, max, Bool, true, ◌&&◌, nat_le}
use Rattle.arithmetic.specs.Gcd.{gcd}
use Rattle.exact_num.specs.Fraction.{Fraction, reduced}
use Rattle.exact_num.specs.CommonDenominator.{signed_amounts_over}
use Rattle.exact_num.specs.Fits.{size_fits}
use Rattle.simplex_run.specs.Table.{Table, Row, row_of}

-- whole numbers over one denominator, the right side last
pub record IntegerRow : Type 0 where
  pub denominator : ℕ
  pub numbers : List ℤ

-- a row, and the variable that is basic in it
pub record WholeRow : Type 0 where
  pub basic : ℕ
  pub line : IntegerRow

-- the table that they make, as the one of fractions: the rows have a number for each label
pub record IntegerTable : Type 0 where
  pub columns : ℕ
  pub labels : List ℕ
  pub rows : List WholeRow
  pub objective : IntegerRow

abbrev pub integer_row : ℕ → List ℤ → IntegerRow
integer_row denominator numbers = record { denominator = denominator; numbers = numbers }

abbrev pub whole_row : ℕ → IntegerRow → WholeRow
whole_row basic line = record { basic = basic; line = line }

abbrev pub no_integer_row : IntegerRow
no_integer_row = integer_row 1 []

-- the number at place j, and 0 past the end
abbrev pub number_at : List ℤ → ℕ → ℤ
number_at zs j = slice_index_or zs j (pos 0)

-- the row of row i
abbrev pub integer_row_at : List WholeRow → ℕ → IntegerRow
integer_row_at rows i = (slice_index_or rows i (whole_row 0 no_integer_row)).line

-- the variable that is basic in row i
abbrev pub basic_of : List WholeRow → ℕ → ℕ
basic_of rows i = (slice_index_or rows i (whole_row 0 no_integer_row)).basic

-- ---- what a row stands for, in lowest terms
abbrev pub entry_of : IntegerRow → ℕ → Fraction
entry_of l j = reduced (number_at l.numbers j) l.denominator

unfoldable pub fractions_over : ℕ → List ℤ → List Fraction
fractions_over d zs = map (λ z. reduced z d) zs

abbrev pub fractions_of : IntegerRow → List Fraction
fractions_of l = fractions_over l.denominator l.numbers

abbrev pub row_for : WholeRow → Row
row_for row = row_of row.basic (fractions_of row.line)

abbrev pub table_for : IntegerTable → Table
table_for w = record { columns = w.columns; labels = w.labels; rows = map row_for w.rows; objective = fractions_of w.objective }

-- ---- fractions taken in, over the least common multiple of their denominators
abbrev pub multiple : ℕ → ℕ → ℕ
multiple a b = a * (b / gcd a b)

unfoldable pub least_multiple : List Fraction → ℕ
least_multiple [] = 1
least_multiple (f ∷ fs) = multiple f.denominator (least_multiple fs)

abbrev pub taken_in : List Fraction → IntegerRow
taken_in fs = integer_row (least_multiple fs) (signed_amounts_over (least_multiple fs) fs)

abbrev pub row_taken_in : Row → WholeRow
row_taken_in row = whole_row row.basic (taken_in row.entries)

abbrev pub table_taken_in : Table → IntegerTable
table_taken_in t = record { columns = t.columns; labels = t.labels; rows = map row_taken_in t.rows; objective = taken_in t.objective }

-- ---- sizes
-- the greatest of d and of the sizes of the numbers
unfoldable pub greatest_size : ℕ → List ℤ → ℕ
greatest_size d [] = d
greatest_size d (z ∷ zs) = max (unsigned_abs z) (greatest_size d zs)

abbrev pub row_size : IntegerRow → ℕ
row_size l = greatest_size l.denominator l.numbers

-- each number and each denominator is at most the bound
unfoldable pub numbers_fit : ℕ → List ℤ → Bool
numbers_fit bound [] = true
numbers_fit bound (z ∷ zs) = size_fits bound z && numbers_fit bound zs

abbrev pub row_fits : ℕ → IntegerRow → Bool
row_fits bound l = nat_le l.denominator bound && numbers_fit bound l.numbers

unfoldable pub rows_fit : ℕ → List WholeRow → Bool
rows_fit bound [] = true
rows_fit bound (row ∷ rows) = row_fits bound row.line && rows_fit bound rows

-- what a signed number of 64 bits holds in either sign
abbrev pub widest : ℕ
widest = 2 ^ 63 - 1

-- the same as facts
abbrev pub AreSizes : ℕ → List ℤ → Type 0
AreSizes bound zs = (j : ℕ) → unsigned_abs (number_at zs j) ≤ bound

-- a row of n numbers, of any size
pub record IsShaped (n : ℕ) (l : IntegerRow) : Type 0 where
  pub positive : 0 < l.denominator
  pub count : length l.numbers ≡ n

-- a row of n numbers within the bound
pub record IsIntegerRow (bound n : ℕ) (l : IntegerRow) : Type 0 where
  pub positive : 0 < l.denominator
  pub below : l.denominator ≤ bound
  pub sizes : AreSizes bound l.numbers
  pub count : length l.numbers ≡ n

abbrev pub AreIntegerRows : ℕ → ℕ → List WholeRow → Type 0
AreIntegerRows bound n [] = Unit {0}
AreIntegerRows bound n (row ∷ rows) = IsIntegerRow bound n row.line × AreIntegerRows bound n rows

-- a table of n columns, the rows of its rows within the bound. The objective row may be of any size
pub record IsWithin (bound n : ℕ) (w : IntegerTable) : Type 0 where
  pub labels : length w.labels ≡ n
  pub rows : AreIntegerRows bound (suc n) w.rows
  pub objective : IsShaped (suc n) w.objective
