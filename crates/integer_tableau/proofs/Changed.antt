-- A row that is written in its arenas: how it stands then, and the others as they did.
use Rattle.std.proofs.Common.{◌≡◌, ℕ, zero, suc, ◌+◌, ◌^◌, ◌<◌, ◌≤◌, List, [], ◌∷◌, ◌++◌, length, set, get_or, refl, sym, ◌∙◌, ap, subst, arith, Bool, true, false, ℤ, length-set, length-append}
use Rattle.std.proofs.Math.Decide.{ℕ_discrete}
use Rattle.std.proofs.Math.Seq.{get_or-append_seam}
use Rattle.std.proofs.lemmas.List.{get_or_append_left, get_or_default, set-set}
use Rattle.lists.specs.Parts.{refit}
use Rattle.lists.proofs.Lists.{refit_is}
use Rattle.fraction_tableau.proofs.ArenaSteps.{at_set_same, at_set_other}
use Rattle.run_equivalence.specs.IntegerRows.{IsIntegerRow, row_size, widest}
use Rattle.integer_tableau.specs.Rows.{row_in, row_at}
use Rattle.integer_tableau.specs.Stored.{AreStored, HasSigns, IsChangedAt, IsStored, IsWrittenAt, SameCounts, is_wide_at, rows_in, size_at}
use Rattle.integer_tableau.specs.declared.rows.Rows.{Rows}
use Rattle.integer_tableau.proofs.Standing.{IsStill, row_standing_short, row_standing_wide, rows_many, still_stored}
use Rattle.integer_tableau.proofs.Stored.{IsSet, rows_changed, set_is}
use Rattle.integer_tableau.proofs.Turned.{row_wider, size_below}
use Rattle.integer_tableau.proofs.Written.{counts_then}

-- ---- the row that is written
pub row_placed : (n i : ℕ) (rows : List (List ℤ)) (x y : List ℤ) → i < length rows → length y ≡ n → row_at (set rows i (refit n x y)) i ≡ y
row_placed n i rows x y low full = at_set_same rows i (refit n x y) [] low ∙ refit_is n x y full

pub flag_unset : (flags : List Bool) (i : ℕ) → get_or (set flags i false) i false ≡ false
flag_unset [] i = none i
  where
    none : (i : ℕ) → get_or [] i false ≡ false
    none zero = refl
    none (suc i) = refl
flag_unset (b ∷ flags) zero = refl
flag_unset (b ∷ flags) (suc i) = flag_unset flags i

-- what indexing the sizes tells
pub size_there : (r : Rows) (i n : ℕ) → i < length r.short.rows → n ≡ get_or r.sizes.items i n → size_at r i ≡ n
size_there r i n low e = get_or_default r.sizes.items i 0 n (omega (arith, low, r.sizes_count, r.sizes.ok)) ∙ sym e

-- ---- a row that stands as it is to
pub stored_short : (w i : ℕ) (r : Rows) → is_wide_at r i ≡ false → row_size (row_in w (row_at r.short.rows i)) ≤ size_at r i → row_size (row_in w (row_at r.short.rows i)) ≤ widest → size_at r i < 2 ^ 64 → IsStored w r i
stored_short w i r flag size low room =
    let here = sym (row_standing_short r i flag) in
    record {
      size = subst (λ (z : List ℤ). row_size (row_in w z) ≤ size_at r i) here size;
      short = λ _. (subst (λ (z : List ℤ). row_size (row_in w z) ≤ widest) here low, room);
      signs = λ wide. absurd cc;
    }

pub stored_wide : (w i : ℕ) (r : Rows) → i < length r.short.rows → is_wide_at r i ≡ true → row_size (row_in w (row_at r.wide.rows i)) ≤ size_at r i → HasSigns w (row_at r.short.rows i) (row_at r.wide.rows i) → IsStored w r i
stored_wide w i r low flag size signs =
    let here = sym (row_standing_wide r i low flag) in
    record {
      size = subst (λ (z : List ℤ). row_size (row_in w z) ≤ size_at r i) here size;
      short = λ short. absurd cc;
      signs = λ _. signs;
    }

-- ---- row i alone is written, in either arena
pub changed_at : {i : ℕ} {old new : Rows} → IsSet Bool i old.is_wide.items new.is_wide.items → IsSet ℕ i old.sizes.items new.sizes.items → IsSet (List ℤ) i old.short.rows new.short.rows → IsSet (List ℤ) i old.wide.rows new.wide.rows
    → new.short.spare ≡ old.short.spare → new.short.width ≡ old.short.width → IsChangedAt i old new
changed_at {i} {old} {new} flags sizes short wide spare width =
    record {
      flags = set_is i old.is_wide.items new.is_wide.items false flags;
      sizes = set_is i old.sizes.items new.sizes.items 0 sizes;
      short = set_is i old.short.rows new.short.rows [] short;
      wide = set_is i old.wide.rows new.wide.rows [] wide;
      spare = spare;
      width = width;
    }

at_other : {A : Type 0} (old new : List A) (i j : ℕ) (y d : A) → new ≡ set old i y → (j ≡ i → ⊥) → get_or new j d ≡ get_or old j d
at_other {A} old new i j y d e apart = ap (λ (xs : List A). get_or xs j d) e ∙ at_set_other old i j y d apart

pub changed_row : (i : ℕ) (old new : Rows) → IsChangedAt i old new → rows_in new ≡ set (rows_in old) i (row_at (rows_in new) i)
changed_row i old new g = rows_changed old.is_wide.items new.is_wide.items old.short.rows new.short.rows old.wide.rows new.wide.rows i _ _ _ g.flags g.short g.wide

changed_others : (w i j : ℕ) (old new : Rows) → IsChangedAt i old new → (j ≡ i → ⊥) → IsStored w old j → IsStored w new j
changed_others w i j old new g apart s =
    still_stored w j old new
    (record {
      row = at_other (rows_in old) (rows_in new) i j _ [] (changed_row i old new g) apart;
      size = at_other old.sizes.items new.sizes.items i j _ 0 g.sizes apart;
      flag = at_other old.is_wide.items new.is_wide.items i j _ false g.flags apart;
      short = at_other old.short.rows new.short.rows i j _ [] g.short apart;
      wide = at_other old.wide.rows new.wide.rows i j _ [] g.wide apart;
    }) s

pub changed_counts : (i : ℕ) (old new : Rows) → IsChangedAt i old new → SameCounts old new
changed_counts i old new g = record { count = ap length g.short ∙ length-set old.short.rows i (row_at new.short.rows i); spare = g.spare; width = g.width }

pub written : (w i : ℕ) (old new : Rows) → IsChangedAt i old new → IsStored w new i → IsWrittenAt w i old new
written w i old new g s =
    record {
      row = changed_row i old new g;
      stored = s;
      others = λ j apart. changed_others w i j old new g apart;
      flags = λ j apart. at_other old.is_wide.items new.is_wide.items i j _ false g.flags apart;
      count = changed_counts i old new g;
    }

-- and then once more
pub written_after : (w i : ℕ) (a b c : Rows) → IsWrittenAt w i b c → IsChangedAt i a b → IsWrittenAt w i a c
written_after w i a b c h g =
    record {
      row = h.row ∙ ap (λ (s : List (List ℤ)). set s i (row_at (rows_in c) i)) (changed_row i a b g) ∙ set-set (rows_in a) i (row_at (rows_in b) i) (row_at (rows_in c) i);
      stored = h.stored;
      others = λ j apart s. h.others j apart (changed_others w i j a b g apart s);
      flags = λ j apart. h.flags j apart ∙ at_other a.is_wide.items b.is_wide.items i j _ false g.flags apart;
      count = counts_then a b c (changed_counts i a b g) h.count;
    }

-- ---- one row more, which is short
pub record IsAppended (row : List ℤ) (old new : Rows) : Type 0 where
  pub rows : rows_in new ≡ rows_in old ++ row ∷ []
  pub short : new.short.rows ≡ old.short.rows ++ row ∷ []
  pub wide : new.wide.rows ≡ old.wide.rows
  pub flags : new.is_wide.items ≡ set old.is_wide.items (length old.short.rows) false
  pub sizes : new.sizes.items ≡ set old.sizes.items (length old.short.rows) widest
  pub room : length old.short.rows < length old.sizes.items

module _ (limit w : ℕ) (old new : Rows) (row : List ℤ) (g : IsAppended row old new) (s : AreStored limit w old) (line : IsIntegerRow widest w (row_in w row)) where
  many : length (rows_in old) ≡ length old.short.rows
  many = rows_many old

  more : length new.short.rows ≡ length old.short.rows + 1
  more = let count = length-append old.short.rows (row ∷ []) in let e = ap length g.short in omega (arith, count, e)

  flag : is_wide_at new (length old.short.rows) ≡ false
  flag = ap (λ (xs : List Bool). get_or xs (length old.short.rows) false) g.flags ∙ flag_unset old.is_wide.items (length old.short.rows)

  size : size_at new (length old.short.rows) ≡ widest
  size = ap (λ (xs : List ℕ). get_or xs (length old.short.rows) 0) g.sizes ∙ at_set_same old.sizes.items (length old.short.rows) widest 0 g.room

  last : row_at new.short.rows (length old.short.rows) ≡ row
  last = ap (λ (rows : List (List ℤ)). row_at rows (length old.short.rows)) g.short ∙ get_or-append_seam old.short.rows row [] []

  low : row_size (row_in w (row_at new.short.rows (length old.short.rows))) ≤ widest
  low = subst (λ (z : List ℤ). row_size (row_in w z) ≤ widest) (sym last) (size_below widest w (row_in w row) line)

  new_row : IsStored w new (length old.short.rows)
  new_row = stored_short w (length old.short.rows) new flag (subst (λ (k : ℕ). row_size (row_in w (row_at new.short.rows (length old.short.rows))) ≤ k) (sym size) low) low (subst (λ (k : ℕ). k < 2 ^ 64) (sym size) (omega arith))

  still : (j : ℕ) → j < length old.short.rows → IsStill j old new
  still j inside =
      record {
        row = ap (λ (rows : List (List ℤ)). row_at rows j) g.rows ∙ get_or_append_left (rows_in old) (row ∷ []) [] j (omega (arith, inside, many));
        size = at_other old.sizes.items new.sizes.items (length old.short.rows) j widest 0 g.sizes (λ e. omega (arith, e, inside));
        flag = at_other old.is_wide.items new.is_wide.items (length old.short.rows) j false false g.flags (λ e. omega (arith, e, inside));
        short = ap (λ (rows : List (List ℤ)). row_at rows j) g.short ∙ get_or_append_left old.short.rows (row ∷ []) [] j inside;
        wide = ap (λ (rows : List (List ℤ)). row_at rows j) g.wide;
      }

  pub appended : widest ≤ limit → AreStored limit w new
  appended wider = record { lines = lines; rows = rows }
    where
      rows : (j : ℕ) → j < length new.short.rows → IsStored w new j
      rows j inside = elim (ℕ_discrete j (length old.short.rows)) [
        | yes e ↦ subst (λ (k : ℕ). IsStored w new k) (sym e) new_row
        | no apart ↦ (let before : j < length old.short.rows = omega (arith, inside, more, apart) in still_stored w j old new (still j before) (s.rows j before))
      ]

      lines : (j : ℕ) → j < length (rows_in new) → IsIntegerRow limit w (row_in w (row_at (rows_in new) j))
      lines j inside = elim (ℕ_discrete j (length old.short.rows)) [
        | yes e ↦
            subst (λ (z : List ℤ). IsIntegerRow limit w (row_in w z))
            (sym (ap (row_at (rows_in new)) e ∙ row_standing_short new (length old.short.rows) flag ∙ last)) (row_wider widest limit w (row_in w row) wider line)
        | no apart ↦ (let before : j < length old.short.rows = omega (arith, inside, rows_many new, more, apart) in
            subst (λ (z : List ℤ). IsIntegerRow limit w (row_in w z)) (sym (still j before).row) (s.lines j (omega (arith, before, many))))
      ]
