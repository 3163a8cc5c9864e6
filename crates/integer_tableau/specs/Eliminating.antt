-- What is known of a pivot row, and what is left of a row when the pivot's column is eliminated.
use Rattle.std.specs.Prelude.{◌≡◌, ℕ, ◌-◌, ◌^◌, ◌<◌, ◌≤◌, List, ℤ, length}
use Rattle.run_equivalence.specs.IntegerRows.{AreSizes, IsIntegerRow, IntegerRow, integer_row, row_size, widest}
use Rattle.integer_tableau.specs.Rows.{IsEliminated, row_in, nonzero_in}
use Rattle.integer_tableau.specs.declared.mix.PivotRow.{PivotRow}
use Rattle.integer_tableau.specs.declared.outcome.Eliminated.{Eliminated}
use Rattle.integer_tableau.specs.declared.outcome.Eliminated.TheVariants.{Short, Wide, Misfit}

-- what is known of a pivot row of these w numbers holds
pub record IsPivotRow (k : PivotRow) (w : ℕ) (pivot : List ℤ) : Type 0 where
  pub column : k.step.c < w
  pub count : length pivot ≡ w
  pub above : 0 < k.a
  pub below : k.a ≤ k.step.limit
  pub limit : (widest ≤ k.step.limit) × (k.step.limit ≤ 2 ^ 127 - 1)
  pub sizes : AreSizes k.most pivot
  pub places : k.places.now ≡ nonzero_in pivot

-- and 64 bits hold the row
pub record IsShortPivot (k : PivotRow) : Type 0 where
  pub own : k.a ≤ widest
  pub most : k.most < 2 ^ 64

-- a row of w numbers within the bound, at most the size that is kept with it
pub record IsKept (bound w kept : ℕ) (l : IntegerRow) : Type 0 where
  pub line : IsIntegerRow bound w l
  pub size : row_size l ≤ kept

-- 64 bits hold the row, and it is at most the size that is kept with it
pub record IsShort (kept : ℕ) (l : IntegerRow) : Type 0 where
  pub size : row_size l ≤ kept
  pub short : row_size l ≤ widest

-- the pivot's column is eliminated from the row
abbrev pub IsEliminatedBy : PivotRow → List ℤ → IntegerRow → IntegerRow → Type 0
IsEliminatedBy k pivot old new = IsEliminated k.step.limit k.step.c k.a k.most pivot old new

-- the row that is made, among the numbers or in the room
abbrev pub IsMade : Eliminated → IntegerRow → List ℤ → ℕ → List ℤ → Type 0
IsMade (Short d) l numbers size room = (integer_row d numbers ≡ l) × IsShort size l
IsMade (Wide d) l numbers size room = integer_row d room ≡ l
IsMade Misfit l numbers size room = Unit {0}

-- what is left of a row, among the numbers or in the room
abbrev pub IsLeft : Eliminated → PivotRow → List ℤ → IntegerRow → List ℤ → ℕ → List ℤ → Type 0
IsLeft (Short d) k pivot l numbers size room = IsEliminatedBy k pivot l (integer_row d numbers) × IsShort size (integer_row d numbers)
IsLeft (Wide d) k pivot l numbers size room = IsEliminatedBy k pivot l (integer_row d room)
IsLeft Misfit k pivot l numbers size room = Unit {0}

-- the same of the row at the front of a row
abbrev pub IsFrontLeft : Eliminated → PivotRow → ℕ → List ℤ → IntegerRow → List ℤ → ℕ → List ℤ → Type 0
IsFrontLeft (Short d) k w pivot l row size room = IsEliminatedBy k pivot l (row_in w row) × IsShort size (row_in w row)
IsFrontLeft (Wide d) k w pivot l row size room = IsEliminatedBy k pivot l (integer_row d room)
IsFrontLeft Misfit k w pivot l row size room = Unit {0}
