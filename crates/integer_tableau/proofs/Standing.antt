-- A row where it stands, by its flag.
use Rattle.std.proofs.Common.{◌≡◌, ℕ, ◌^◌, ◌<◌, ◌≤◌, List, length, map, slice_index_or, sym, ◌∙◌, subst, arith, Bool, true, false, ℤ}
use Rattle.std.proofs.lemmas.List.{get_or_default, map-id}
use Rattle.run_equivalence.specs.IntegerRows.{row_size, widest}
use Rattle.integer_tableau.specs.Eliminating.{IsPivotRow}
use Rattle.integer_tableau.specs.Rows.{AreRowsIn, row_in, row_at}
use Rattle.integer_tableau.specs.Stored.{AreStored, HasSigns, IsKnown, IsStored, is_wide_at, rows_in, size_at}
use Rattle.integer_tableau.specs.declared.mix.PivotRow.{PivotRow}
use Rattle.integer_tableau.specs.declared.rows.Rows.{Rows}
use Rattle.integer_tableau.proofs.Stored.{row_short, row_wide, rows_count}

pub row_standing_short : (r : Rows) (i : ℕ) → is_wide_at r i ≡ false → row_at (rows_in r) i ≡ row_at r.short.rows i
row_standing_short r i flag = row_short r.is_wide.items r.short.rows r.wide.rows i flag

pub row_standing_wide : (r : Rows) (i : ℕ) → i < length r.short.rows → is_wide_at r i ≡ true → row_at (rows_in r) i ≡ row_at r.wide.rows i
row_standing_wide r i low flag = row_wide r.is_wide.items r.short.rows r.wide.rows i low (omega (arith, low, r.wide_count)) flag

-- what indexing the flags tells
pub flag_there : (r : Rows) (i : ℕ) (b v : Bool) → i < length r.short.rows → b ≡ slice_index_or r.is_wide.items i b → b ≡ v → is_wide_at r i ≡ v
flag_there r i b v low e is = get_or_default r.is_wide.items i false b (omega (arith, low, r.is_wide_count, r.is_wide.ok)) ∙ sym e ∙ is

-- the row where it is read
pub read_short : (r : Rows) (i : ℕ) (b : Bool) (z : List ℤ) → i < length r.short.rows → b ≡ slice_index_or r.is_wide.items i b → b ≡ false → z ≡ row_at r.short.rows i → row_at (rows_in r) i ≡ z
read_short r i b z low e is there = row_standing_short r i (flag_there r i b false low e is) ∙ sym there

pub read_wide : (r : Rows) (i : ℕ) (b : Bool) (z : List ℤ) → i < length r.short.rows → b ≡ slice_index_or r.is_wide.items i b → b ≡ true → z ≡ row_at r.wide.rows i → row_at (rows_in r) i ≡ z
read_wide r i b z low e is there = row_standing_wide r i low (flag_there r i b true low e is) ∙ sym there

pub rows_many : (r : Rows) → length (rows_in r) ≡ length r.short.rows
rows_many r = rows_count r.is_wide.items r.short.rows r.wide.rows

-- nothing of row j changes
pub record IsStill (j : ℕ) (old new : Rows) : Type 0 where
  pub row : row_at (rows_in new) j ≡ row_at (rows_in old) j
  pub size : size_at new j ≡ size_at old j
  pub flag : is_wide_at new j ≡ is_wide_at old j
  pub short : row_at new.short.rows j ≡ row_at old.short.rows j
  pub wide : row_at new.wide.rows j ≡ row_at old.wide.rows j

pub still_stored : (w j : ℕ) (old new : Rows) → IsStill j old new → IsStored w old j → IsStored w new j
still_stored w j old new g s =
    record {
      size = subst (λ (z : List ℤ). row_size (row_in w z) ≤ size_at new j) (sym g.row) (subst (λ (n : ℕ). row_size (row_in w (row_at (rows_in old) j)) ≤ n) (sym g.size) s.size);
      short = λ e. (
        subst (λ (z : List ℤ). row_size (row_in w z) ≤ widest) (sym g.row) (s.short (sym g.flag ∙ e)).0,
        subst (λ (n : ℕ). n < 2 ^ 64) (sym g.size) (s.short (sym g.flag ∙ e)).1,
      );
      signs = λ e. subst (λ (z : List ℤ). HasSigns w z (row_at new.wide.rows j)) (sym g.short) (subst (λ (z : List ℤ). HasSigns w (row_at old.short.rows j) z) (sym g.wide) (s.signs (sym g.flag ∙ e)));
    }

-- nothing of any row changes
pub all_stored : (limit w : ℕ) (old new : Rows) → rows_in new ≡ rows_in old → length new.short.rows ≡ length old.short.rows → ((j : ℕ) → j < length old.short.rows → IsStill j old new) → AreStored limit w old → AreStored limit w new
all_stored limit w old new same count g s =
    record {
      lines = subst (AreRowsIn limit w) (sym same) s.lines;
      rows = λ j low. let before : j < length old.short.rows = omega (arith, low, count) in still_stored w j old new (g j before) (s.rows j before);
    }

-- the pivot row as words
pub pivot_words : (k : PivotRow) (w : ℕ) (t : Rows) (p : List ℤ) → IsKnown k w t → row_at (rows_in t) k.step.r ≡ p → IsPivotRow k w (row_in w (map (λ (z : ℤ). z) p)).numbers
pivot_words k w t p g e = subst (λ (z : List ℤ). IsPivotRow k w (row_in w z).numbers) (e ∙ sym (map-id p)) g.line
