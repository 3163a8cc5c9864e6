use Rattle.std.proofs.Common.{rules, ◌≡◌, ◌<◌, ◌≤◌, ◌∙◌, sym, ap, subst, unsigned_abs, to_z, of_z, FitsSigned, ℕ, ℤ}
use mir.Syntax.{w128}
use Rattle.std.proofs.lemmas.Int.{to_z-of_z}
use Rattle.exact_num.specs.Fraction.{reduced}
use Rattle.run_equivalence.specs.IntegerRows.{number_at}
use Rattle.integer_tableau.specs.Rows.{row_in, row_at}
use Rattle.integer_tableau.specs.Stored.{rows_in}
use Rattle.integer_tableau.specs.Tables.{width_of}
use Rattle.integer_tableau.proofs.Choosing.{in_row}
use Rattle.integer_tableau.proofs.ReadOff.{row_within}
use Rattle.integer_tableau.proofs.table.WholeTable.entry.Goals as goal

pub fraction-requires-clause-number : goal.fraction-requires-clause-number
fraction-requires-clause-number g c =
    let t = c.args.self.now in
    let w = width_of t in
    let row = row_at (rows_in t.rows) c.args.i in
    let fits : FitsSigned w128 c.number-2.result = search rules in
    let number : to_z w128 (of_z w128 c.number-2.result) ≡ number_at (row_in w row).numbers c.args.k = to_z-of_z w128 c.number-2.result fits ∙ c.number-2.ensures ∙ sym (in_row w row c.args.k c.requires.place) in
    subst (λ (z : ℤ). unsigned_abs z ≤ unsigned_abs g.N.Exact.LIMIT) (sym number) ((row_within _ t c.args.i c.requires.within c.requires.row).sizes c.args.k)

pub fraction-requires-clause-denominator : goal.fraction-requires-clause-denominator
fraction-requires-clause-denominator g c =
    let t = c.args.self.now in
    let fits : FitsSigned w128 c.number.result = search rules in
    let below : c.unsigned_abs-denominator.result ≡ (row_in (width_of t) (row_at (rows_in t.rows) c.args.i)).denominator = c.unsigned_abs-denominator.ensures.value ∙ ap unsigned_abs (to_z-of_z w128 c.number.result fits ∙ c.number.ensures) in
    let line = row_within _ t c.args.i c.requires.within c.requires.row in
    (subst (λ (d : ℕ). 0 < d) (sym below) line.positive, subst (λ (d : ℕ). d ≤ unsigned_abs g.N.Exact.LIMIT) (sym below) line.below)

pub returns : goal.returns
returns g c =
    let t = c.args.self.now in
    let w = width_of t in
    let row = row_at (rows_in t.rows) c.args.i in
    let f0 : FitsSigned w128 c.number.result = search rules in
    let f1 : FitsSigned w128 c.number-2.result = search rules in
    let number : to_z w128 (of_z w128 c.number-2.result) ≡ number_at (row_in w row).numbers c.args.k = to_z-of_z w128 c.number-2.result f1 ∙ c.number-2.ensures ∙ sym (in_row w row c.args.k c.requires.place) in
    let below : c.unsigned_abs-denominator.result ≡ (row_in w row).denominator = c.unsigned_abs-denominator.ensures.value ∙ ap unsigned_abs (to_z-of_z w128 c.number.result f0 ∙ c.number.ensures) in
    c.fraction.ensures ∙ (λ i. reduced (number i) (below i))
