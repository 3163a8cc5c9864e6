-- One row of both widths written, and what stands then.
use Rattle.std.proofs.Common.{◌≡◌, ℕ, zero, suc, ◌+◌, ◌<◌, ◌≤◌, List, [], ◌∷◌, length, set, refl, sym, ◌∙◌, ap, subst, arith, Bool, true, false, ℤ, pos}
use Rattle.std.specs.Prelude.{nat_le}
use Rattle.std.proofs.lemmas.Bool.{leb-true, leb-false}
use Rattle.std.proofs.lemmas.List.{length-map, set-set}
use Rattle.std.proofs.Math.Decide.{ℕ_discrete}
use Rattle.std.specs.Int.{int_signum}
use Rattle.fraction_tableau.proofs.ArenaSteps.{at_set_other}
use Rattle.run_equivalence.specs.IntegerRows.{IsIntegerRow, number_at}
use Rattle.integer_tableau.specs.Rows.{AreRowsIn, column_in, row_in, nonzero_in, row_at}
use Rattle.integer_tableau.specs.Eliminating.{IsEliminatedBy, IsPivotRow}
use Rattle.integer_tableau.specs.Stored.{AreStored, IsKnown, IsRowEliminated, IsStored, IsWrittenAt, SameCounts, is_wide_at, rows_in}
use Rattle.integer_tableau.specs.declared.mix.PivotRow.{PivotRow}
use Rattle.integer_tableau.specs.declared.rows.Rows.{Rows}
use Rattle.integer_tableau.proofs.Choosing.{in_row}
use Rattle.integer_tableau.proofs.Eliminating.{eliminated_at, eliminated_none, left_within}
use Rattle.integer_tableau.proofs.Listed.{IsGap, column_number}
use Rattle.integer_tableau.proofs.Stored.{nonzero_by_signs, row_short, row_wide, rows_count}
use Rattle.integer_tableau.proofs.Turned.{integer_rows_set, size_below}

-- ---- the other rows are as they were
pub other_row : (w i j : ℕ) (old new : Rows) → IsWrittenAt w i old new → (i ≡ j → ⊥) → row_at (rows_in new) j ≡ row_at (rows_in old) j
other_row w i j old new g apart = ap (λ (s : List (List ℤ)). row_at s j) g.row ∙ at_set_other (rows_in old) i j (row_at (rows_in new) i) [] (λ e. apart (sym e))

pub counts_then : (a b c : Rows) → SameCounts a b → SameCounts b c → SameCounts a c
counts_then a b c g h = record { count = h.count ∙ g.count; spare = h.spare ∙ g.spare; width = h.width ∙ g.width }

-- one row written twice
pub written_then : (w i : ℕ) (a b c : Rows) → IsWrittenAt w i a b → IsWrittenAt w i b c → IsWrittenAt w i a c
written_then w i a b c g h =
    record {
      row = h.row ∙ ap (λ (s : List (List ℤ)). set s i (row_at (rows_in c) i)) g.row ∙ set-set (rows_in a) i (row_at (rows_in b) i) (row_at (rows_in c) i);
      stored = h.stored;
      others = λ j apart s. h.others j apart (g.others j apart s);
      flags = λ j apart. h.flags j apart ∙ g.flags j apart;
      count = counts_then a b c g.count h.count;
    }

-- ---- all rows stand, where the one that is written is within the limit
pub stored_after : (limit w i : ℕ) (old new : Rows) → AreStored limit w old → IsWrittenAt w i old new → IsIntegerRow limit w (row_in w (row_at (rows_in new) i)) → AreStored limit w new
stored_after limit w i old new s g line =
    record {
      lines = subst (AreRowsIn limit w) (sym g.row) (integer_rows_set limit w (rows_in old) i (row_at (rows_in new) i) s.lines line);
      rows = λ j low. each j (let count = g.count.count in omega (arith, low, count));
    }
  where
    each : (j : ℕ) → j < length old.short.rows → IsStored w new j
    each j low = elim (ℕ_discrete j i) [
      | yes e ↦ subst (λ (k : ℕ). IsStored w new k) (sym e) g.stored
      | no apart ↦ g.others j apart (s.rows j low)
    ]

-- the pivot row is as it was where another is written
pub known_after : (k : PivotRow) (w i : ℕ) (old new : Rows) → IsKnown k w old → IsWrittenAt w i old new → (i ≡ k.step.r → ⊥) → IsKnown k w new
known_after k w i old new g h apart =
    let same = other_row w i k.step.r old new h apart in
    let flag = h.flags k.step.r (λ e. apart (sym e)) in
    record {
      row = (let low = g.row in let count = h.count.count in omega (arith, low, count));
      line = subst (λ (z : List ℤ). IsPivotRow k w (row_in w z).numbers) (sym same) g.line;
      short = λ is. g.short (sym flag ∙ is);
    }

-- ---- the signs of a column tell where it is not 0
pub sign_there : (w c i : ℕ) (r : Rows) → c < w → i < length r.short.rows → i < length r.wide.rows → IsStored w r i → int_signum (number_at (row_at r.short.rows i) (c + 1)) ≡ int_signum (number_at (row_at (rows_in r) i) (c + 1))
sign_there w c i r column low room s = step (is_wide_at r i) refl
  where
    step : (b : Bool) → is_wide_at r i ≡ b → int_signum (number_at (row_at r.short.rows i) (c + 1)) ≡ int_signum (number_at (row_at (rows_in r) i) (c + 1))
    step true e = s.signs e (c + 1) (omega (arith, column)) ∙ ap (λ (z : List ℤ). int_signum (number_at z (c + 1))) (sym (row_wide r.is_wide.items r.short.rows r.wide.rows i low room e))
    step false e = ap (λ (z : List ℤ). int_signum (number_at z (c + 1))) (sym (row_short r.is_wide.items r.short.rows r.wide.rows i e))

past_rows : (rows : List (List ℤ)) (i c : ℕ) → length rows ≤ i → number_at (row_at rows i) (c + 1) ≡ pos 0
past_rows [] i c h = nothing (c + 1)
  where
    nothing : (k : ℕ) → number_at [] k ≡ pos 0
    nothing zero = refl
    nothing (suc k) = refl
past_rows (x ∷ rows) zero c h = absurd (omega (arith, h))
past_rows (x ∷ rows) (suc i) c h = past_rows rows i c (omega (arith, h))

pub column_by_signs : (w c : ℕ) (r : Rows) → c < w → length r.short.rows ≤ length r.wide.rows → ((i : ℕ) → i < length r.short.rows → IsStored w r i) → nonzero_in (column_in c r.short.rows) ≡ nonzero_in (column_in c (rows_in r))
column_by_signs w c r column room s =
    let count = rows_count r.is_wide.items r.short.rows r.wide.rows in
    nonzero_by_signs (column_in c r.short.rows) (column_in c (rows_in r))
    (length-map r.short.rows (λ row. number_at row (c + 1)) ∙ sym count ∙ sym (length-map (rows_in r) (λ row. number_at row (c + 1)))) each
  where
    each : (i : ℕ) → int_signum (number_at (column_in c r.short.rows) i) ≡ int_signum (number_at (column_in c (rows_in r)) i)
    each i = step (nat_le (length r.short.rows) i) refl
      where
        step : (b : Bool) → nat_le (length r.short.rows) i ≡ b → int_signum (number_at (column_in c r.short.rows) i) ≡ int_signum (number_at (column_in c (rows_in r)) i)
        step false e =
            let low : i < length r.short.rows = leb-false _ _ e in
            ap int_signum (column_number c r.short.rows i) ∙ sign_there w c i r column low (omega (arith, low, room)) (s i low) ∙ ap int_signum (sym (column_number c (rows_in r) i))
        step true e =
            let high : length r.short.rows ≤ i = leb-true _ _ e in
            let many = rows_count r.is_wide.items r.short.rows r.wide.rows in
            ap int_signum (column_number c r.short.rows i ∙ past_rows r.short.rows i c high ∙ sym (past_rows (rows_in r) i c (omega (arith, high, many))) ∙ sym (column_number c (rows_in r) i))

-- ---- the pivot's column is eliminated from the rows before i but the pivot row, and the rest are as they were
pub record AreDone (k : PivotRow) (w i : ℕ) (old new : Rows) : Type 0 where
  pub count : SameCounts old new
  pub pivot : row_at (rows_in new) k.step.r ≡ row_at (rows_in old) k.step.r
  pub known : IsKnown k w new
  pub stored : AreStored k.step.limit w new
  pub left : (j : ℕ) → i ≤ j → row_at (rows_in new) j ≡ row_at (rows_in old) j
  pub done : (j : ℕ) → j < i → (j ≡ k.step.r → ⊥) → IsEliminatedBy k (row_in w (row_at (rows_in old) k.step.r)).numbers (row_in w (row_at (rows_in old) j)) (row_in w (row_at (rows_in new) j))

pub none_done : (k : PivotRow) (w : ℕ) (old : Rows) → IsKnown k w old → AreStored k.step.limit w old → AreDone k w 0 old old
none_done k w old known stored =
    record { count = record { count = refl; spare = refl; width = refl }; pivot = refl; known = known; stored = stored; left = λ j p. refl; done = λ j p apart. absurd (omega (arith, p)) }

-- rows with 0 in the column stay
pub done_passed : (k : PivotRow) (w i n : ℕ) (old new : Rows) → AreStored k.step.limit w old → IsGap k.step.c i n (rows_in old) → AreDone k w i old new → AreDone k w n old new
done_passed k w i n old new stored gap g =
    record { count = g.count; pivot = g.pivot; known = g.known; stored = g.stored; left = λ j p. g.left j (let low = gap.low in omega (arith, low, p)); done = λ j p apart. step j p apart (nat_le i j) refl }
  where
    P : List ℤ
    P = (row_in w (row_at (rows_in old) k.step.r)).numbers

    step : (j : ℕ) → j < n → (j ≡ k.step.r → ⊥) → (b : Bool) → nat_le i j ≡ b
        → IsEliminatedBy k (row_in w (row_at (rows_in old) k.step.r)).numbers (row_in w (row_at (rows_in old) j)) (row_in w (row_at (rows_in new) j))
    step j p apart false e = g.done j (leb-false _ _ e) apart
    step j p apart true e =
        let high = gap.high in
        let from = leb-true _ _ e in
        let l = row_in w (row_at (rows_in old) j) in
        let zero = in_row w (row_at (rows_in old) j) k.step.c g.known.line.column ∙ gap.zero j from p in
        let size = size_below k.step.limit w l (stored.lines j (omega (arith, p, high))) in
        subst (λ (z : List ℤ). IsEliminatedBy k (row_in w (row_at (rows_in old) k.step.r)).numbers (row_in w (row_at (rows_in old) j)) (row_in w z)) (sym (g.left j from))
        (eliminated_none k.step.limit k.step.c k.a k.most (row_in w (row_at (rows_in old) k.step.r)).numbers l zero g.known.line.above size)

-- the pivot row stays
pub done_pivot : (k : PivotRow) (w i : ℕ) (old new : Rows) → i ≡ k.step.r → AreDone k w i old new → AreDone k w (i + 1) old new
done_pivot k w i old new is g =
    record {
      count = g.count;
      pivot = g.pivot;
      known = g.known;
      stored = g.stored;
      left = λ j p. g.left j (omega (arith, p));
      done = λ j p apart. g.done j (let other : j ≡ i → ⊥ = λ e. apart (e ∙ is) in omega (arith, p, other)) apart;
    }

-- any other goes on
pub done_more : (k : PivotRow) (w i : ℕ) (old mid new : Rows) → i < length mid.short.rows → (i ≡ k.step.r → ⊥) → AreDone k w i old mid → IsRowEliminated k w i mid new → AreDone k w (i + 1) old new
done_more k w i old mid new low apart g e =
    record {
      count = counts_then old mid new g.count e.written.count;
      pivot = other_row w i k.step.r mid new e.written apart ∙ g.pivot;
      known = known_after k w i mid new g.known e.written apart;
      stored = stored_after k.step.limit w i mid new g.stored e.written (left_within k w _ _ _ g.known.line (g.stored.lines i (omega (arith, low, many))) e.eliminated);
      left = λ j p. other_row w i j mid new e.written (λ q. omega (arith, p, q)) ∙ g.left j (omega (arith, p));
      done = λ j p other. elim (ℕ_discrete j i) [
        | yes q ↦ subst (λ (m : ℕ). IsEliminatedBy k (row_in w (row_at (rows_in old) k.step.r)).numbers (row_in w (row_at (rows_in old) m)) (row_in w (row_at (rows_in new) m))) (sym q) here
        | no ne ↦
            subst (λ (z : List ℤ). IsEliminatedBy k (row_in w (row_at (rows_in old) k.step.r)).numbers (row_in w (row_at (rows_in old) j)) (row_in w z))
            (sym (other_row w i j mid new e.written (λ q. ne (sym q)))) (g.done j (omega (arith, p, ne)) other)
      ];
    }
  where
    many : length (rows_in mid) ≡ length mid.short.rows
    many = rows_count mid.is_wide.items mid.short.rows mid.wide.rows

    here : IsEliminatedBy k (row_in w (row_at (rows_in old) k.step.r)).numbers (row_in w (row_at (rows_in old) i)) (row_in w (row_at (rows_in new) i))
    here = eliminated_at k w _ _ _ _ _ _ g.pivot (ap (row_in w) (g.left i (omega arith))) refl e.eliminated
