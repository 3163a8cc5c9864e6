-- What holds of as many numbers, counted otherwise.
use Rattle.std.proofs.Common.{◌≡◌, ℕ, sym, subst}
use Rattle.integer_tableau.specs.Stored.{AreRowsEliminated, IsKnown}
use Rattle.integer_tableau.specs.declared.mix.PivotRow.{PivotRow}
use Rattle.integer_tableau.specs.declared.rows.Rows.{Rows}

pub known_at : {k : PivotRow} {w n : ℕ} {t : Rows} → n ≡ w → IsKnown k w t → IsKnown k n t
known_at {k} {w} {n} {t} e g = subst (λ (m : ℕ). IsKnown k m t) (sym e) g

pub rows_at : {k : PivotRow} {w n : ℕ} {old new : Rows} → n ≡ w → AreRowsEliminated k n old new → AreRowsEliminated k w old new
rows_at {k} {w} {n} {old} {new} e g = subst (λ (m : ℕ). AreRowsEliminated k m old new) e g
