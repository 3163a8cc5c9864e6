use Rattle.std.proofs.Common.{◌∙◌, sym, subst, length, drop, ℕ, ℤ, List}
use Rattle.fraction_tableau.proofs.Starts.{take_past}
use Rattle.run_equivalence.specs.IntegerRows.{IsIntegerRow, widest}
use Rattle.integer_tableau.specs.Rows.{row_in}
use Rattle.integer_tableau.specs.Tables.{width_of}
use Rattle.integer_tableau.proofs.table.WholeTable.take_row.Goals as goal

pub returns-clause-stored : goal.returns-clause-stored
returns-clause-stored g c limit done high stored =
    let w = width_of c.args.self.now in
    let row = c.take_numbers.new.row in
    let is = c.as_slice.ensures.value ∙ take_past c.args.self.now.line.len row (drop (length row) c.args.self.now.line.items) (c.take_numbers.auto.row ∙ c.as_mut_slice.ensures.len) in
    let line = subst (λ (k : ℕ). IsIntegerRow widest k (row_in k row)) c.requires.width (c.take_numbers.ensures.within c.if-not-take_numbers.false) in
    c.append.ensures.stored limit w stored high (subst (λ (zs : List ℤ). IsIntegerRow widest w (row_in w zs)) (sym is) line)
