use Rattle.std.proofs.Common.{◌≡◌, refl, sym, subst, arith, rules, length, slice_index_or, pos, unsigned_abs, FitsSigned, w64}
use Rattle.std.proofs.lemmas.Int.{to_z-of_z, to_z_pos, fits_signed_from_abs}
use Rattle.run_equivalence.specs.IntegerRows.{widest}
use Rattle.integer_tableau.specs.Eliminating.{IsEliminatedBy, IsShort}
use Rattle.integer_tableau.specs.Rows.{row_in}
use Rattle.integer_tableau.proofs.Turned.{row_part, row_wider, part_count, pivot_part, row_written, short_denominator}
use Rattle.integer_tableau.proofs.front.eliminate_front.Goals as goal

pub eliminate_short-requires-clause-width : goal.eliminate_short-requires-clause-width
eliminate_short-requires-clause-width c = sym (part_count widest (length c.args.room.now) c.args.row.now c.requires.line.line)

pub eliminate_short-requires-clause-pivot : goal.eliminate_short-requires-clause-pivot
eliminate_short-requires-clause-pivot c =
    let w = length c.args.room.now in
    pivot_part c.args.known w _ c.args.pivot.now (part_count widest w c.args.row.now c.requires.line.line) c.requires.pivot

pub eliminate_short-requires-clause-line : goal.eliminate_short-requires-clause-line
eliminate_short-requires-clause-line c =
    let first = slice_index_or c.args.row.now 0 (pos 0) in
    let fz : FitsSigned w64 first = search rules in
    let size : c.unsigned_abs-denominator.result ≡ unsigned_abs first = simp to_z-of_z at c.unsigned_abs-denominator.ensures.value in
    row_part widest (length c.args.room.now) c.args.size.now c.unsigned_abs-denominator.result c.args.row.now size c.requires.line

pub overflow_cast-row : goal.overflow_cast-row
overflow_cast-row c =
    let low = short_denominator c.in-Short.denominator c.eliminate_short.new.size c.eliminate_short.new.numbers c.in-Short.ensures.1 in
    fits_signed_from_abs w64 (pos c.in-Short.denominator) (omega (arith, low))

pub returns-in-Short : goal.returns-in-Short
returns-in-Short c =
    let w = length c.args.room.now in
    let row = c.args.row.now in
    let k = c.args.known in
    let first = slice_index_or row 0 (pos 0) in
    let fz : FitsSigned w64 first = search rules in
    let size : c.unsigned_abs-denominator.result ≡ unsigned_abs first = simp to_z-of_z at c.unsigned_abs-denominator.ensures.value in
    let d = c.in-Short.denominator in
    let low = short_denominator d c.eliminate_short.new.size c.eliminate_short.new.numbers c.in-Short.ensures.1 in
    let line = row_wider widest k.step.limit w (row_in w row) c.requires.pivot.limit.0 c.requires.line.line in
    let g = row_written k w _ d row c.args.pivot.now _ c.eliminate_short.new.numbers w64 size refl c.requires.widths.0 c.requires.pivot line c.in-Short.ensures.0 in
    let written = sym (g.written (to_z_pos w64 d (omega (arith, low)))) in
    (subst (IsEliminatedBy k (row_in w c.args.pivot.now).numbers (row_in w row)) written g.left, subst (IsShort c.eliminate_short.new.size) written c.in-Short.ensures.1)
