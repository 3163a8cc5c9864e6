use Rattle.std.proofs.Common.{◌≡◌, ◌<◌, ◌≤◌, ◌+◌, ◌-◌, ◌^◌, ◌∙◌, refl, sym, ap, subst, arith, false, true, ℕ, ℤ, List, length, set, unsigned_abs, length-set, rules, FitsSigned}
use mir.Syntax.{w128}
use Rattle.std.proofs.lemmas.Int.{to_z-of_z}
use Rattle.std.proofs.lemmas.List.{map-id}
use Rattle.lists.specs.Parts.{refit}
use Rattle.run_equivalence.specs.IntegerRows.{IntegerRow, row_size, number_at, widest}
use Rattle.integer_tableau.specs.Rows.{row_in, pivot_row_after, row_at}
use Rattle.integer_tableau.specs.Stored.{IsWrittenAt, rows_in, size_at}
use Rattle.integer_tableau.specs.declared.rows.Rows.{Rows}
use Rattle.integer_tableau.proofs.Changed.{changed_at, row_placed, stored_short, written, written_after}
use Rattle.integer_tableau.proofs.Fronts.{exchanged, pivot_size}
use Rattle.integer_tableau.proofs.Standing.{flag_there, row_standing_short, row_standing_wide}
use Rattle.integer_tableau.proofs.Stored.{row_short, row_wide, put, stays}
use Rattle.integer_tableau.proofs.Turned.{row_below}
use Rattle.integer_tableau.proofs.rows.Rows.exchange_row.Goals.{then-index, else-index}
use Rattle.integer_tableau.proofs.rows.Rows.exchange_row.Goals as goal

pub exchange_denominator-requires-clause-below : goal.exchange_denominator-requires-clause-below
exchange_denominator-requires-clause-below c =
    let t = c.args.self.now in
    let flag = flag_there t c.args.r c.index.result.now true c.requires.row c.index.ensures c.if-index.true in
    let row = row_standing_wide t c.args.r c.requires.row flag ∙ sym c.row_mut.ensures.row ∙ sym (map-id c.row_mut.result.now) in
    subst (λ (z : List ℤ). unsigned_abs (number_at z 0) ≤ 2 ^ 127 - 1) row c.requires.line.below

pub exchange_denominator-requires-else-index-clause-below : goal.exchange_denominator-requires-else-index-clause-below
exchange_denominator-requires-else-index-clause-below c =
    let t = c.args.self.now in
    let w = c.args.width in
    let flag = flag_there t c.args.r c.index.result.now false c.requires.row c.index.ensures c.if-index.false in
    let row = row_standing_short t c.args.r flag ∙ sym c.row_mut-else-index.ensures.row ∙ sym (map-id c.row_mut-else-index.result.now) in
    let within = row_below (2 ^ 127 - 1) widest w (row_in w (row_at (rows_in t) c.args.r)) c.requires.line (c.requires.stored.short flag).0 in
    subst (λ (z : List ℤ). unsigned_abs (number_at z 0) ≤ widest) row within.below

pub keep_signs-requires-clause-size : goal.keep_signs-requires-clause-size
keep_signs-requires-clause-size c =
    let t = c.args.self.now in
    let w = c.args.width in
    let r = c.args.r in
    let k = c.args.c in
    let x = row_at t.wide.rows r in
    let y = c.exchange_denominator.new.row in
    let l = row_in w (row_at (rows_in t) r) in
    let a = unsigned_abs (number_at l.numbers k) in
    let low : r < length t.wide.rows = omega arith in
    let full : length y ≡ t.wide.width = omega (arith, c.row_mut.ensures.width, c.exchange_denominator.auto.row) in
    let flag = flag_there t r c.index.result.now true c.requires.row c.index.ensures c.if-index.true in
    let inside : k + 1 < length c.row_mut.result.now = omega (arith, c.row_mut.ensures.width, t.wide_width, c.requires.widths) in
    let line = exchanged w k c.row_mut.result.now y c.requires.widths.0 inside c.exchange_denominator.ensures
    ∙ ap (λ (z : List ℤ). pivot_row_after k (unsigned_abs (number_at (row_in w z).numbers k)) (row_in w z)) (c.row_mut.ensures.row ∙ sym (row_standing_wide t r c.requires.row flag)) in
    let is_pivot : row_in w (row_at (set t.wide.rows r (refit t.wide.width x y)) r) ≡ pivot_row_after k a l = ap (row_in w) (row_placed t.wide.width r t.wide.rows x y low full) ∙ line in
    let less = pivot_size (2 ^ 127 - 1) w k a l c.requires.widths.0 c.requires.line c.requires.above refl in
    let kept : row_size (pivot_row_after k a l) ≤ size_at t r = omega (arith, less, c.requires.stored.size) in
    subst (λ (m : IntegerRow). row_size m ≤ size_at t r) (sym is_pivot) kept

-- the row that is written
pivot_row : (c : goal.After-unsigned_abs)
    → row_in c.args.width (row_at (rows_in c.if-index.self) c.args.r)
    ≡ pivot_row_after c.args.c (unsigned_abs (number_at (row_in c.args.width (row_at (rows_in c.args.self.now) c.args.r)).numbers c.args.c)) (row_in c.args.width (row_at (rows_in c.args.self.now) c.args.r))
pivot_row c =
    let t = c.args.self.now in
    let n = c.args.width in
    let r = c.args.r in
    let k = c.args.c in
    elim c.if-index.branch [
      | then-index w ↦
          (let x = row_at t.wide.rows r in
          let y = w.exchange_denominator.new.row in
          let low : r < length t.wide.rows = omega arith in
          let full : length y ≡ t.wide.width = omega (arith, w.row_mut.ensures.width, w.exchange_denominator.auto.row) in
          let flag = flag_there t r c.index.result.now true c.requires.row c.index.ensures w.if-index.true in
          let inside : k + 1 < length w.row_mut.result.now = omega (arith, w.row_mut.ensures.width, t.wide_width, c.requires.widths) in
          let there = row_wide t.is_wide.items t.short.rows (set t.wide.rows r (refit t.wide.width x y)) r c.requires.row (simp length-set low) flag in
          ap (λ (rows : List (List ℤ)). row_in n (row_at rows r)) (ap rows_in w.self-is ∙ w.keep_signs.ensures.rows) ∙ ap (row_in n) (there ∙ row_placed t.wide.width r t.wide.rows x y low full)
          ∙ exchanged n k w.row_mut.result.now y c.requires.widths.0 inside w.exchange_denominator.ensures
          ∙ ap (λ (z : List ℤ). pivot_row_after k (unsigned_abs (number_at (row_in n z).numbers k)) (row_in n z)) (w.row_mut.ensures.row ∙ sym (row_standing_wide t r c.requires.row flag)))
      | else-index w ↦
          (let x = row_at t.short.rows r in
          let y = w.exchange_denominator-else-index.new.row in
          let full : length y ≡ t.short.width = omega (arith, w.row_mut-else-index.ensures.width, w.exchange_denominator-else-index.auto.row) in
          let flag = flag_there t r c.index.result.now false c.requires.row c.index.ensures w.if-index.false in
          let inside : k + 1 < length w.row_mut-else-index.result.now = omega (arith, w.row_mut-else-index.ensures.width, c.requires.widths) in
          let here = row_short t.is_wide.items (set t.short.rows r (refit t.short.width x y)) t.wide.rows r flag in
          ap (λ (s : Rows). row_in n (row_at (rows_in s) r)) w.self-is ∙ ap (row_in n) (here ∙ row_placed t.short.width r t.short.rows x y c.requires.row full)
          ∙ exchanged n k w.row_mut-else-index.result.now y c.requires.widths.0 inside w.exchange_denominator-else-index.ensures
          ∙ ap (λ (z : List ℤ). pivot_row_after k (unsigned_abs (number_at (row_in n z).numbers k)) (row_in n z)) (w.row_mut-else-index.ensures.row ∙ sym (row_standing_short t r flag)))
    ]

pub returns-clause-denominator : goal.returns-clause-denominator
returns-clause-denominator c =
    let fits : FitsSigned w128 c.number.result = search rules in
    let size : c.unsigned_abs.result ≡ unsigned_abs c.number.result = simp to_z-of_z at c.unsigned_abs.ensures.value in
    size ∙ ap unsigned_abs c.number.ensures ∙ ap (λ (m : IntegerRow). m.denominator) (pivot_row c)

pub returns-clause-pivot : goal.returns-clause-pivot
returns-clause-pivot c =
    let l = row_in c.args.width (row_at (rows_in c.args.self.now) c.args.r) in
    pivot_row c ∙ ap (λ (a : ℕ). pivot_row_after c.args.c a l) (sym (returns-clause-denominator c))

pub returns-clause-written : goal.returns-clause-written
returns-clause-written c =
    let t = c.args.self.now in
    let n = c.args.width in
    let r = c.args.r in
    let k = c.args.c in
    let l = row_in n (row_at (rows_in t) r) in
    let a = unsigned_abs (number_at l.numbers k) in
    let less = pivot_size (2 ^ 127 - 1) n k a l c.requires.widths.0 c.requires.line c.requires.above refl in
    let smaller : row_size (row_in n (row_at (rows_in c.if-index.self) r)) ≤ row_size l = subst (λ (m : IntegerRow). row_size m ≤ row_size l) (sym (pivot_row c)) less in
    elim c.if-index.branch [
      | then-index w ↦
          subst (λ (s : Rows). IsWrittenAt n r t s) (sym w.self-is)
          (written_after n r t _ w.keep_signs.new.self w.keep_signs.ensures.written
          (changed_at (stays refl) (stays refl) (stays refl) (put _ refl) refl refl))
      | else-index w ↦
          (let y = w.exchange_denominator-else-index.new.row in
          let flag = flag_there t r c.index.result.now false c.requires.row c.index.ensures w.if-index.false in
          let short = c.requires.stored.short flag in
          let row = row_at (set t.short.rows r (refit t.short.width (row_at t.short.rows r) y)) r in
          let here = ap (λ (s : Rows). row_at (rows_in s) r) w.self-is ∙ row_short t.is_wide.items (set t.short.rows r (refit t.short.width (row_at t.short.rows r) y)) t.wide.rows r flag in
          let size : row_size (row_in n row) ≤ row_size l = subst (λ (z : List ℤ). row_size (row_in n z) ≤ row_size l) here smaller in
          let kept : row_size (row_in n row) ≤ size_at t r = omega (arith, size, c.requires.stored.size) in
          let low : row_size (row_in n row) ≤ widest = omega (arith, size, short.0) in
          subst (λ (s : Rows). IsWrittenAt n r t s) (sym w.self-is)
          (written n r t _
          (changed_at (stays refl) (stays refl) (put _ refl) (stays refl) refl refl)
          (stored_short n r _ flag kept low short.1)))
    ]
