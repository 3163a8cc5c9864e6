-- Rows of both widths as they are stored, and the rows that they are.
use Rattle.std.specs.Prelude.{◌≡◌, ℕ, ◌<◌, ◌≤◌, ◌^◌, ◌-◌, List, [], ◌∷◌, ℤ, length, slice_index_or, slice_set, unsigned_abs, if◌then◌else◌, Bool, true, false}
use Rattle.std.specs.Int.{int_signum}
use Rattle.run_equivalence.specs.IntegerRows.{row_size, number_at, widest}
use Rattle.run_equivalence.specs.WholePivoting.{cut}
use Rattle.integer_tableau.specs.Eliminating.{IsEliminatedBy, IsKept, IsPivotRow, IsShortPivot}
use Rattle.integer_tableau.specs.Rows.{AreEliminated, AreRowsIn, IsPivot, IsPivoted, column_in, row_in, nonzero_in, pivot_row_after, row_at}
use Rattle.integer_tableau.specs.declared.mix.PivotRow.{PivotRow}
use Rattle.integer_tableau.specs.declared.mix.PivotPlace.{PivotPlace}
use Rattle.integer_tableau.specs.declared.objective.Objective.{Objective}
use Rattle.integer_tableau.specs.declared.rows.Rows.{Rows}

-- of each row the wide one where it is wide, and else the short one
unfoldable pub rows_of : List Bool → List (List ℤ) → List (List ℤ) → List (List ℤ)
rows_of wide [] there = []
rows_of [] (s ∷ short) there = s ∷ rows_of [] short there
rows_of (b ∷ wide) (s ∷ short) [] = s ∷ rows_of wide short []
rows_of (b ∷ wide) (s ∷ short) (x ∷ there) = (if b then x else s) ∷ rows_of wide short there

abbrev pub rows_in : Rows → List (List ℤ)
rows_in r = rows_of r.is_wide.items r.short.rows r.wide.rows

abbrev pub is_wide_at : Rows → ℕ → Bool
is_wide_at r i = slice_index_or r.is_wide.items i false

abbrev pub size_at : Rows → ℕ → ℕ
size_at r i = slice_index_or r.sizes.items i 0

-- the denominator and w numbers of a row have the signs of those of another
abbrev pub HasSigns : ℕ → List ℤ → List ℤ → Type 0
HasSigns w signs row = (j : ℕ) → j ≤ w → int_signum (number_at signs j) ≡ int_signum (number_at row j)

-- row i is of w numbers: it is at most its size. Where it is short 64 bits hold both, and where it
-- is wide its short row has its signs
pub record IsStored (w : ℕ) (r : Rows) (i : ℕ) : Type 0 where
  pub size : row_size (row_in w (row_at (rows_in r) i)) ≤ size_at r i
  pub short : is_wide_at r i ≡ false → (row_size (row_in w (row_at (rows_in r) i)) ≤ widest) × (size_at r i < 2 ^ 64)
  pub signs : is_wide_at r i ≡ true → HasSigns w (row_at r.short.rows i) (row_at r.wide.rows i)

-- each row is so, and within the limit
pub record AreStored (limit w : ℕ) (r : Rows) : Type 0 where
  pub lines : AreRowsIn limit w (rows_in r)
  pub rows : (i : ℕ) → i < length r.short.rows → IsStored w r i

-- row r is a pivot row of which this is known
pub record IsKnown (k : PivotRow) (w : ℕ) (rows : Rows) : Type 0 where
  pub row : k.step.r < length rows.short.rows
  pub line : IsPivotRow k w (row_in w (row_at (rows_in rows) k.step.r)).numbers
  pub short : is_wide_at rows k.step.r ≡ false → IsShortPivot k

-- as many rows, and room for as many more
pub record SameCounts (old new : Rows) : Type 0 where
  pub count : length new.short.rows ≡ length old.short.rows
  pub spare : new.short.spare ≡ old.short.spare
  pub width : new.short.width ≡ old.short.width

-- of all arenas and lists row i alone changes
pub record IsChangedAt (i : ℕ) (old new : Rows) : Type 0 where
  pub flags : new.is_wide.items ≡ slice_set old.is_wide.items i (is_wide_at new i)
  pub sizes : new.sizes.items ≡ slice_set old.sizes.items i (size_at new i)
  pub short : new.short.rows ≡ slice_set old.short.rows i (row_at new.short.rows i)
  pub wide : new.wide.rows ≡ slice_set old.wide.rows i (row_at new.wide.rows i)
  pub spare : new.short.spare ≡ old.short.spare
  pub width : new.short.width ≡ old.short.width

-- row i alone is written
pub record IsWrittenAt (w i : ℕ) (old new : Rows) : Type 0 where
  pub row : rows_in new ≡ slice_set (rows_in old) i (row_at (rows_in new) i)
  pub stored : IsStored w new i
  pub others : (j : ℕ) → (j ≡ i → ⊥) → IsStored w old j → IsStored w new j
  pub flags : (j : ℕ) → (j ≡ i → ⊥) → is_wide_at new j ≡ is_wide_at old j
  pub count : SameCounts old new

-- row r is the pivot row of column c, over a, and none of its numbers is above `most`
pub record IsPlacedAt (w c r a most : ℕ) (old new : Rows) : Type 0 where
  pub line : row_in w (row_at (rows_in new) r) ≡ pivot_row_after c a (cut (row_in w (row_at (rows_in old) r)))
  pub denominator : a ≡ unsigned_abs (number_at (cut (row_in w (row_at (rows_in old) r))).numbers c)
  pub size : row_size (row_in w (row_at (rows_in new) r)) ≤ most
  pub short : is_wide_at new r ≡ false → most < 2 ^ 64
  pub written : IsWrittenAt w r old new

-- the pivot's column is eliminated from row i
pub record IsRowEliminated (k : PivotRow) (w i : ℕ) (old new : Rows) : Type 0 where
  pub eliminated : IsEliminatedBy k (row_in w (row_at (rows_in old) k.step.r)).numbers (row_in w (row_at (rows_in old) i)) (row_in w (row_at (rows_in new) i))
  pub written : IsWrittenAt w i old new

-- and from each row but the pivot row, which stays
pub record AreRowsEliminated (k : PivotRow) (w : ℕ) (old new : Rows) : Type 0 where
  pub rows : AreEliminated k.step.limit w k.step.c k.step.r k.a k.most (row_in w (row_at (rows_in old) k.step.r)).numbers (rows_in old) (rows_in new)
  pub pivot : row_at (rows_in new) k.step.r ≡ row_at (rows_in old) k.step.r
  pub stored : AreStored k.step.limit w new

-- ---- a pivot of the rows and the objective row
pub record AreKept (limit w : ℕ) (r : Rows) (o : Objective) : Type 0 where
  pub rows : AreStored limit w r
  pub objective : IsKept limit w o.size (row_in w o.numbers.items)

-- the column enters in row r, its rows that are not 0 are listed, and all are within the limit
pub record IsStep (s : PivotPlace) (w : ℕ) (r : Rows) (o : Objective) : Type 0 where
  pub limit : (widest ≤ s.limit) × (s.limit ≤ 2 ^ 127 - 1)
  pub pivot : IsPivot w s.c s.r (rows_in r)
  pub places : s.column_places.now ≡ nonzero_in (column_in s.c (rows_in r))
  pub kept : AreKept s.limit w r o

abbrev pub IsStepMade : PivotPlace → ℕ → Rows → Objective → Rows → Objective → Type 0
IsStepMade s w rows objective new last =
    IsPivoted s.limit w s.c s.r (cut (row_in w (row_at (rows_in rows) s.r))) (rows_in rows) objective.numbers.items (rows_in new) last.numbers.items
