-- The pivot row of a pivot, once it is placed.
use Rattle.std.proofs.Common.{◌≡◌, ℕ, ◌+◌, ◌-◌, ◌^◌, ◌<◌, ◌≤◌, List, length, drop, refl, sym, ◌∙◌, ap, subst, arith, Bool, true, false, ℤ, pos, unsigned_abs}
use Rattle.std.specs.Prelude.{nat_le}
use Rattle.std.specs.Int.{int_signum}
use Rattle.std.proofs.lemmas.Bool.{leb-true, leb-false}
use Rattle.std.proofs.lemmas.List.{get_or_past, length-drop, length-take-le}
use Rattle.run_equivalence.specs.IntegerRows.{IntegerRow, AreSizes, IsIntegerRow, row_size, number_at, widest}
use Rattle.run_equivalence.specs.WholePivoting.{cut, exchanged_in}
use Rattle.run_equivalence.proofs.IntegerRowSteps.{cut_within, sizes_bound}
use Rattle.integer_tableau.specs.Rows.{IsEliminated, IsPivot, column_in, row_in, nonzero_in, row_at}
use Rattle.integer_tableau.specs.Stored.{AreStored, HasSigns, IsKnown, IsPlacedAt, is_wide_at, rows_in}
use Rattle.integer_tableau.specs.declared.mix.PivotRow.{PivotRow}
use Rattle.integer_tableau.specs.declared.rows.Rows.{Rows}
use Rattle.integer_tableau.proofs.Choosing.{in_row}
use Rattle.integer_tableau.proofs.Eliminating.{eliminated_by_less}
use Rattle.integer_tableau.proofs.Standing.{row_standing_short, row_standing_wide, rows_many}
use Rattle.integer_tableau.proofs.Stored.{nonzero_by_signs}
use Rattle.integer_tableau.proofs.Turned.{IsPlaced, listed_still, placed, placed_size}
use Rattle.integer_tableau.proofs.Written.{stored_after}

-- rows that have the same signs are not 0 at the same places
row_by_signs : (w : ℕ) (xs ys : List ℤ) → HasSigns w xs ys → length (row_in w xs).numbers ≡ w → length (row_in w ys).numbers ≡ w → nonzero_in (row_in w xs).numbers ≡ nonzero_in (row_in w ys).numbers
row_by_signs w xs ys h long wide = nonzero_by_signs (row_in w xs).numbers (row_in w ys).numbers (long ∙ sym wide) (λ j. step j (nat_le w j) refl)
  where
    step : (j : ℕ) (b : Bool) → nat_le w j ≡ b → int_signum (number_at (row_in w xs).numbers j) ≡ int_signum (number_at (row_in w ys).numbers j)
    step j false e =
        let low : j < w = leb-false _ _ e in
        ap int_signum (in_row w xs j low) ∙ h (j + 1) (omega (arith, low)) ∙ ap int_signum (sym (in_row w ys j low))
    step j true e =
        let high : w ≤ j = leb-true _ _ e in
        ap int_signum (get_or_past (row_in w xs).numbers j (pos 0) (omega (arith, high, long)) ∙ sym (get_or_past (row_in w ys).numbers j (pos 0) (omega (arith, high, wide))))

module _ {limit w c r a most : ℕ} {old new : Rows} (pivot : IsPivot w c r (rows_in old)) (stored : AreStored limit w old) (g : IsPlacedAt w c r a most old new) where
  pub is_placed : IsPlaced limit w a (row_at (rows_in new) r)
  is_placed = placed limit w c r a (rows_in old) (row_at (rows_in new) r) pivot stored.lines g.denominator g.line

  leaving : IsIntegerRow limit w (cut (row_in w (row_at (rows_in old) r)))
  leaving = cut_within limit w (row_in w (row_at (rows_in old) r)) (stored.lines r pivot.row)

  own : IsIntegerRow (row_size (row_in w (row_at (rows_in new) r))) w (row_in w (row_at (rows_in new) r))
  own = sizes_bound w (row_in w (row_at (rows_in new) r)) (record { positive = is_placed.line.positive; count = is_placed.line.count })

  over_a : a ≤ row_size (row_in w (row_at (rows_in new) r))
  over_a = subst (λ (k : ℕ). k ≤ row_size (row_in w (row_at (rows_in new) r))) (ap (λ (l : IntegerRow). l.denominator) g.line) own.below

  row_inside : r < length new.short.rows
  row_inside = let count = g.written.count.count in let low = pivot.row in omega (arith, low, count, rows_many old)

  pub sizes_low : AreSizes most (row_in w (row_at (rows_in new) r)).numbers
  sizes_low j = let low = own.sizes j in let size = g.size in omega (arith, low, size)

  a_low : a ≤ most
  a_low = let low = over_a in let size = g.size in omega (arith, low, size)

  pub placed_stored : AreStored limit w new
  placed_stored = stored_after limit w r old new stored g.written is_placed.line

  -- the short row that is read has the numbers or their signs
  places_read : (p : List ℤ) → w < length p → p ≡ row_at new.short.rows r → nonzero_in (row_in w p).numbers ≡ nonzero_in (row_in w (row_at (rows_in new) r)).numbers
  places_read p wide is = step (is_wide_at new r) refl
    where
      step : (b : Bool) → is_wide_at new r ≡ b → nonzero_in (row_in w p).numbers ≡ nonzero_in (row_in w (row_at (rows_in new) r)).numbers
      step false e = ap (λ (z : List ℤ). nonzero_in (row_in w z).numbers) (is ∙ sym (row_standing_short new r e))
      step true e =
          let standing = row_standing_wide new r row_inside e in
          let signs = subst (λ (z : List ℤ). HasSigns w p z) (sym standing) (subst (λ (z : List ℤ). HasSigns w z (row_at new.wide.rows r)) (sym is) (g.written.stored.signs e)) in
          row_by_signs w p (row_at (rows_in new) r) signs (length-take-le w (drop 1 p) (omega (arith, wide, length-drop 1 p))) is_placed.line.count

  pub leaving_size : row_size (cut (row_in w (row_at (rows_in old) r))) ≤ most
  leaving_size = placed_size limit w c a most (cut (row_in w (row_at (rows_in old) r))) (row_at (rows_in new) r) leaving pivot.column g.denominator g.line sizes_low a_low

  pub placed_column : nonzero_in (column_in c (rows_in new)) ≡ nonzero_in (column_in c (rows_in old))
  placed_column =
      ap (λ (s : List (List ℤ)). nonzero_in (column_in c s)) g.written.row
      ∙ listed_still w c r a (rows_in old) (row_at (rows_in new) r) (cut (row_in w (row_at (rows_in old) r))) pivot g.line leaving.positive leaving.count

  -- what a pivot makes of a row, by the row that leaves
  pub pivoted_row : (l m : IntegerRow) → IsEliminated limit c a most (row_in w (row_at (rows_in new) r)).numbers l m
      → IsEliminated limit c (unsigned_abs (number_at (cut (row_in w (row_at (rows_in old) r))).numbers c)) (row_size (cut (row_in w (row_at (rows_in old) r)))) (exchanged_in c (cut (row_in w (row_at (rows_in old) r)))) l m
  pivoted_row l m e =
      let leaves = row_size (cut (row_in w (row_at (rows_in old) r))) in
      subst (λ (q : ℕ). IsEliminated limit c q leaves (exchanged_in c (cut (row_in w (row_at (rows_in old) r)))) l m) g.denominator
      (subst (λ (k : IntegerRow). IsEliminated limit c a leaves k.numbers l m) g.line (eliminated_by_less limit c a leaves most _ l m leaving_size e))

-- the places are those of the short row, which is read
pub placed_known : {k : PivotRow} {w : ℕ} {old new : Rows} (p : List ℤ) → IsPivot w k.step.c k.step.r (rows_in old) → AreStored k.step.limit w old → IsPlacedAt w k.step.c k.step.r k.a k.most old new → (widest ≤ k.step.limit) × (k.step.limit ≤ 2 ^ 127 - 1)
    → w < length p → p ≡ row_at new.short.rows k.step.r → k.places.now ≡ nonzero_in (row_in w p).numbers → IsKnown k w new
placed_known {k} {w} {old} {new} p pivot stored g limit wide is places =
    let placed = is_placed pivot stored g in
    record {
      row = row_inside pivot stored g;
      line = record {
        column = pivot.column;
        count = placed.line.count;
        above = placed.above;
        below = placed.below;
        limit = limit;
        sizes = sizes_low pivot stored g;
        places = places ∙ places_read pivot stored g p wide is;
      };
      short = λ e. record { own = (let low = over_a pivot stored g in let size = (g.written.stored.short e).0 in omega (arith, low, size)); most = g.short e };
    }
