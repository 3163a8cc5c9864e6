use Rattle.std.proofs.Common.{◌+◌, ◌<◌, ◌∙◌, refl, sym, subst, arith, length, slice_index_or, ℕ}
use Rattle.run_equivalence.specs.IntegerRows.{IsIntegerRow}
use Rattle.integer_tableau.specs.Rows.{row_in, row_at}
use Rattle.integer_tableau.specs.Stored.{IsKnown, IsRowEliminated, IsStored, rows_in}
use Rattle.integer_tableau.specs.declared.rows.Rows.{Rows}
use Rattle.integer_tableau.proofs.Listed.{first_gap, later_gap, next_row, no_row, row_inside, row_is}
use Rattle.integer_tableau.proofs.Standing.{rows_many}
use Rattle.integer_tableau.proofs.Written.{AreDone, done_more, done_passed, done_pivot, none_done}
use Rattle.integer_tableau.proofs.rows.Rows.eliminate_rows.Goals.{then-i-r+else-not-eliminate_row, else-i-r}
use Rattle.integer_tableau.proofs.rows.Rows.eliminate_rows.Goals as goal

pub loop-place-init : goal.loop-place-init
loop-place-init c =
    let k = c.args.known in
    let t = c.args.self.now in
    let n = length c.args.room.now in
    record { room = refl; rows = done_passed k n 0 _ t t c.requires.stored (first_gap k.step.c (rows_in t) k.step.column_places.now c.requires.places) (none_done k n t c.requires.pivot c.requires.stored) }

-- what a call needs of a row that is listed
pub eliminate_row-requires : goal.eliminate_row-requires
eliminate_row-requires c =
    let k = c.args.known in
    let t = c.args.self.now in
    let s = c.loop-place.self in
    let i = slice_index_or k.step.column_places.now c.loop-place.place-index 0 in
    let room = sym c.loop-place.invariant.room in
    let inv = c.loop-place.invariant.rows in
    let inside = row_inside k.step.c (rows_in t) k.step.column_places.now c.requires.places c.loop-place.place-index c.loop-place-test.true in
    let count = inv.count.count in
    let low : i < length s.short.rows = omega (arith, inside, count, rows_many t) in
    record {
      rows = (low, λ e. c.if-i-r.true (sym e));
      width = omega (arith, c.requires.width, room, inv.count.width);
      line = subst (λ (n : ℕ). IsIntegerRow k.step.limit n (row_in n (row_at (rows_in s) i))) room (inv.stored.lines i (omega (arith, low, rows_many s)));
      stored = subst (λ (n : ℕ). IsStored n s i) room (inv.stored.rows i low);
      pivot = subst (λ (n : ℕ). IsKnown k n s) room inv.known;
    }

pub loop-place-preserved : goal.loop-place-preserved
loop-place-preserved c =
    let n = length c.args.room.now in
    let k = c.args.known in
    let js = k.step.column_places.now in
    let t = c.loop-place.place-index in
    let i = slice_index_or js t 0 in
    let first = c.args.self.now in
    let s = c.loop-place.self in
    let old = rows_in first in
    let room = c.loop-place.invariant.room in
    let inside = row_inside k.step.c old js c.requires.places t c.loop-place-test.true in
    let count = c.loop-place.invariant.rows.count.count in
    let low : i < length s.short.rows = omega (arith, inside, count, rows_many first) in
    let inv : AreDone k n i first s = subst (λ (q : ℕ). AreDone k n q first s) (row_is k.step.c old js c.requires.places t c.loop-place-test.true) c.loop-place.invariant.rows in
    let passed = λ (z : Rows) (g : AreDone k n (i + 1) first z). done_passed k n (i + 1) (next_row js (t + 1) old) first z c.requires.stored (later_gap k.step.c old js c.requires.places t c.loop-place-test.true) g in
    elim c.if-i-r.branch [
      | then-i-r+else-not-eliminate_row w ↦
          (let new = w.eliminate_row.new.self in
          let told = subst (λ (q : ℕ). IsRowEliminated k q i s new) room (w.eliminate_row.ensures.eliminated w.if-not-eliminate_row.false) in
          record { room = c.if-i-r.auto.room ∙ room; rows = subst (λ (z : Rows). AreDone k n (next_row js (t + 1) old) first z) (sym w.self-is) (passed new (done_more k n i first s new low w.if-i-r.true inv told)) })
      | else-i-r w ↦
          (record { room = c.if-i-r.auto.room ∙ room; rows = subst (λ (z : Rows). AreDone k n (next_row js (t + 1) old) first z) (sym w.self-is) (passed s (done_pivot k n i first s w.if-i-r.false inv)) })
    ]

pub returns-clause-eliminated : goal.returns-clause-eliminated
returns-clause-eliminated c done =
    let inv = c.loop-place.invariant.rows in
    let old = rows_in c.args.self.now in
    let end = no_row c.args.known.step.c old c.args.known.step.column_places.now c.requires.places c.loop-place.place-index (omega (arith, c.loop-place-test.false)) in
    record { rows = λ i low apart. inv.done i (omega (arith, low, end)) apart; pivot = inv.pivot; stored = inv.stored }
