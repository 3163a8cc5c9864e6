use Rattle.std.proofs.Common.{◌≡◌, ◌+◌, ◌∙◌, sym, ap, rules, true, false, unsigned_abs, ℤ, List, slice_index_or, pos, FitsSigned, w64}
use mir.Syntax.{w128}
use Rattle.run_equivalence.specs.IntegerRows.{number_at}
use Rattle.std.proofs.lemmas.Int.{to_z-of_z}
use Rattle.integer_tableau.proofs.Standing.{flag_there, row_standing_short, row_standing_wide}
use Rattle.integer_tableau.proofs.rows.Rows.ratio.Goals as goal

pub returns-then-index-clause-right_side : goal.returns-then-index-clause-right_side
returns-then-index-clause-right_side c =
    let t = c.args.self.now in
    let fits : FitsSigned w128 (slice_index_or c.row-row.result.now c.args.width (pos 0)) = search rules in
    let flag = flag_there t c.args.i c.index.result.now true c.requires.row c.index.ensures c.if-index.true in
    simp to_z-of_z (ap (λ (x : List ℤ). number_at x c.args.width) (c.row-row.ensures.row ∙ sym (row_standing_wide t c.args.i c.requires.row flag)))

pub returns-then-index-clause-entry : goal.returns-then-index-clause-entry
returns-then-index-clause-entry c =
    let t = c.args.self.now in
    let fits : FitsSigned w128 (slice_index_or c.row-row.result.now (c.args.c + 1) (pos 0)) = search rules in
    let flag = flag_there t c.args.i c.index.result.now true c.requires.row c.index.ensures c.if-index.true in
    let size : c.unsigned_abs.result ≡ unsigned_abs (number_at c.row-row.result.now (c.args.c + 1)) = simp to_z-of_z at c.unsigned_abs.ensures.value in
    size ∙ ap (λ (x : List ℤ). unsigned_abs (number_at x (c.args.c + 1))) (c.row-row.ensures.row ∙ sym (row_standing_wide t c.args.i c.requires.row flag))

pub returns-else-index-clause-right_side : goal.returns-else-index-clause-right_side
returns-else-index-clause-right_side c =
    let t = c.args.self.now in
    let fits : FitsSigned w64 (slice_index_or c.row-row-else-index.result.now c.args.width (pos 0)) = search rules in
    let flag = flag_there t c.args.i c.index.result.now false c.requires.row c.index.ensures c.if-index.false in
    simp to_z-of_z (ap (λ (x : List ℤ). number_at x c.args.width) (c.row-row-else-index.ensures.row ∙ sym (row_standing_short t c.args.i flag)))

pub returns-else-index-clause-entry : goal.returns-else-index-clause-entry
returns-else-index-clause-entry c =
    let t = c.args.self.now in
    let fits : FitsSigned w64 (slice_index_or c.row-row-else-index.result.now (c.args.c + 1) (pos 0)) = search rules in
    let flag = flag_there t c.args.i c.index.result.now false c.requires.row c.index.ensures c.if-index.false in
    let size : c.unsigned_abs-else-index.result ≡ unsigned_abs (number_at c.row-row-else-index.result.now (c.args.c + 1)) = simp to_z-of_z at c.unsigned_abs-else-index.ensures.value in
    size ∙ ap (λ (x : List ℤ). unsigned_abs (number_at x (c.args.c + 1))) (c.row-row-else-index.ensures.row ∙ sym (row_standing_short t c.args.i flag))
