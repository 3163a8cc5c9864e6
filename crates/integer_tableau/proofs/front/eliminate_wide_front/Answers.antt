use Rattle.std.proofs.Common.{◌≡◌, ◌≤◌, ◌+◌, ◌-◌, sym, subst, arith, rules, slice_index_or, take, drop, pos, unsigned_abs, length, map, FitsSigned}
use Rattle.std.proofs.lemmas.Int.{to_z-of_z, to_z_pos}
use mir.Syntax.{w128}
use Rattle.run_equivalence.specs.IntegerRows.{IntegerRow, row_size}
use Rattle.integer_tableau.specs.Eliminating.{IsEliminatedBy, IsPivotRow}
use Rattle.integer_tableau.specs.Rows.{row_in}
use Rattle.integer_tableau.proofs.Numbers.{held_128}
use Rattle.integer_tableau.proofs.Turned.{row_part, part_count, pivot_part, row_written}
use Rattle.integer_tableau.proofs.Words.{front_words}
use Rattle.integer_tableau.proofs.front.eliminate_wide_front.Goals as goal

pub eliminate_wide-requires-clause-pivot : goal.eliminate_wide-requires-clause-pivot
eliminate_wide-requires-clause-pivot g c =
    let w = c.args.width in
    let n = length (take (w + 1 - 1) (drop 1 c.args.row.now)) in
    subst (IsPivotRow c.args.known n) (sym (front_words g.P.Word.value (w + 1 - 1) c.args.pivot.now))
    (pivot_part c.args.known w n (map g.P.Word.value c.args.pivot.now) (part_count c.args.known.step.limit w c.args.row.now c.requires.line.line) c.requires.pivot)

pub eliminate_wide-requires-clause-line : goal.eliminate_wide-requires-clause-line
eliminate_wide-requires-clause-line g c =
    let first = slice_index_or c.args.row.now 0 (pos 0) in
    let fz : FitsSigned w128 first = search rules in
    let size : c.unsigned_abs-denominator.result ≡ unsigned_abs first = simp to_z-of_z at c.unsigned_abs-denominator.ensures.value in
    row_part c.args.known.step.limit c.args.width c.args.size.now c.unsigned_abs-denominator.result c.args.row.now size c.requires.line

pub overflow_cast-row : goal.overflow_cast-row
overflow_cast-row g c =
    let k = c.args.known in
    let w = c.args.width in
    let first = slice_index_or c.args.row.now 0 (pos 0) in
    let fz : FitsSigned w128 first = search rules in
    let size : c.unsigned_abs-denominator.result ≡ unsigned_abs first = simp to_z-of_z at c.unsigned_abs-denominator.ensures.value in
    let is = row_written k w _ c.in-Some.below c.args.row.now (map g.P.Word.value c.args.pivot.now) _ c.eliminate_wide.new.numbers w128 size (front_words g.P.Word.value (w + 1 - 1) c.args.pivot.now) c.requires.widths.0 c.requires.pivot c.requires.line.line c.in-Some.ensures.eliminated in
    let low = is.below in
    held_128 (pos c.in-Some.below) (omega (arith, low, c.requires.pivot.limit.1))

pub returns : goal.returns
returns g c =
    let k = c.args.known in
    let w = c.args.width in
    let row = c.args.row.now in
    let pivot = map g.P.Word.value c.args.pivot.now in
    let first = slice_index_or row 0 (pos 0) in
    let fz : FitsSigned w128 first = search rules in
    let size : c.unsigned_abs-denominator.result ≡ unsigned_abs first = simp to_z-of_z at c.unsigned_abs-denominator.ensures.value in
    let is = row_written k w _ c.in-Some.below row pivot _ c.eliminate_wide.new.numbers w128 size (front_words g.P.Word.value (w + 1 - 1) c.args.pivot.now) c.requires.widths.0 c.requires.pivot c.requires.line.line c.in-Some.ensures.eliminated in
    let low = is.below in
    let written = sym (is.written (to_z_pos w128 c.in-Some.below (omega (arith, low, c.requires.pivot.limit.1)))) in
    record {
      eliminated = λ done. subst (IsEliminatedBy k (row_in w pivot).numbers (row_in w row)) written is.left;
      size = λ done. subst (λ (l : IntegerRow). row_size l ≤ c.eliminate_wide.new.size) written c.in-Some.ensures.size;
    }
