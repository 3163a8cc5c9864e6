use Rattle.std.proofs.Common.{◌∙◌, sym, ap, rules, true, false, ℤ, List, slice_index_or, pos, FitsSigned, w64}
use mir.Syntax.{w128}
use Rattle.run_equivalence.specs.IntegerRows.{number_at}
use Rattle.std.proofs.lemmas.Int.{to_z-of_z}
use Rattle.integer_tableau.proofs.Numbers.{widened}
use Rattle.integer_tableau.proofs.Standing.{flag_there, row_standing_short, row_standing_wide}
use Rattle.integer_tableau.proofs.rows.Rows.number.Goals as goal

pub returns-then-index : goal.returns-then-index
returns-then-index c =
    let t = c.args.self.now in
    let k = c.args.k in
    let z = slice_index_or c.row.result.now k (pos 0) in
    let fits : FitsSigned w128 z = search rules in
    let flag = flag_there t c.args.i c.index.result.now true c.requires.row c.index.ensures c.if-index.true in
    simp to_z-of_z (ap (λ (x : List ℤ). number_at x k) (c.row.ensures.row ∙ sym (row_standing_wide t c.args.i c.requires.row flag)))

pub returns-else-index : goal.returns-else-index
returns-else-index c =
    let t = c.args.self.now in
    let k = c.args.k in
    let z = slice_index_or c.row-else-index.result.now k (pos 0) in
    let fits : FitsSigned w64 z = search rules in
    let flag = flag_there t c.args.i c.index.result.now false c.requires.row c.index.ensures c.if-index.false in
    widened z fits ∙ ap (λ (x : List ℤ). number_at x k) (c.row-else-index.ensures.row ∙ sym (row_standing_short t c.args.i flag))
