use Rattle.std.proofs.Common.{rules, ◌≡◌, ◌+◌, ◌<◌, ◌≤◌, ◌∙◌, arith, sym, ap, subst, length, pos, unsigned_abs, to_z, of_z, FitsSigned, ℕ, ℤ}
use mir.Syntax.{w128}
use Rattle.std.proofs.lemmas.Int.{to_z-of_z}
use Rattle.std.proofs.lemmas.List.{get_or_default}
use Rattle.exact_num.specs.Fraction.{reduced}
use Rattle.run_equivalence.specs.IntegerRows.{number_at}
use Rattle.integer_tableau.specs.Rows.{row_in}
use Rattle.integer_tableau.specs.Tables.{width_of}
use Rattle.integer_tableau.proofs.Choosing.{in_row}
use Rattle.integer_tableau.proofs.table.WholeTable.price.Goals as goal

pub fraction-requires-clause-number : goal.fraction-requires-clause-number
fraction-requires-clause-number g c =
    let t = c.args.self.now in
    let row = t.objective.numbers.items in
    let k = c.args.k in
    let z = c.index.result.now in
    let fits : FitsSigned w128 z = search rules in
    let inside : k + 1 < length row = omega (arith, c.requires.place, t.columns, t.objective_width, t.objective.numbers.ok, t.labels.ok) in
    let number : to_z w128 (of_z w128 z) ≡ number_at (row_in (width_of t) row).numbers k = to_z-of_z w128 z fits ∙ c.index.ensures ∙ sym (get_or_default row (k + 1) (pos 0) z inside) ∙ sym (in_row (width_of t) row k c.requires.place) in
    subst (λ (v : ℤ). unsigned_abs v ≤ unsigned_abs g.N.Exact.LIMIT) (sym number) (c.requires.within.objective.line.sizes k)

pub fraction-requires-clause-denominator : goal.fraction-requires-clause-denominator
fraction-requires-clause-denominator g c =
    let t = c.args.self.now in
    let row = t.objective.numbers.items in
    let z = c.index-2.result.now in
    let fits : FitsSigned w128 z = search rules in
    let inside : 0 < length row = omega (arith, t.columns, t.objective_width, t.objective.numbers.ok) in
    let below : c.unsigned_abs.result ≡ unsigned_abs (number_at row 0) = c.unsigned_abs.ensures.value ∙ ap unsigned_abs (to_z-of_z w128 z fits ∙ c.index-2.ensures ∙ sym (get_or_default row 0 (pos 0) z inside)) in
    let line = c.requires.within.objective.line in
    (subst (λ (d : ℕ). 0 < d) (sym below) line.positive, subst (λ (d : ℕ). d ≤ unsigned_abs g.N.Exact.LIMIT) (sym below) line.below)

pub returns : goal.returns
returns g c =
    let t = c.args.self.now in
    let row = t.objective.numbers.items in
    let k = c.args.k in
    let z = c.index.result.now in
    let y = c.index-2.result.now in
    let fz : FitsSigned w128 z = search rules in
    let fy : FitsSigned w128 y = search rules in
    let inside : k + 1 < length row = omega (arith, c.requires.place, t.columns, t.objective_width, t.objective.numbers.ok, t.labels.ok) in
    let number : to_z w128 (of_z w128 z) ≡ number_at (row_in (width_of t) row).numbers k = to_z-of_z w128 z fz ∙ c.index.ensures ∙ sym (get_or_default row (k + 1) (pos 0) z inside) ∙ sym (in_row (width_of t) row k c.requires.place) in
    let below : c.unsigned_abs.result ≡ unsigned_abs (number_at row 0) = c.unsigned_abs.ensures.value ∙ ap unsigned_abs (to_z-of_z w128 y fy ∙ c.index-2.ensures ∙ sym (get_or_default row 0 (pos 0) y (omega (arith, inside)))) in
    c.fraction.ensures ∙ (λ i. reduced (number i) (below i))
