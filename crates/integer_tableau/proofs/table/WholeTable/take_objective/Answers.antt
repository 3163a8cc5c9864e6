use Rattle.std.proofs.Common.{◌≡◌, ◌++◌, ◌∙◌, sym, subst, length, take, drop, ℕ, ℤ, List}
use Rattle.fraction_tableau.proofs.Starts.{take_past}
use Rattle.run_equivalence.specs.IntegerRows.{IsIntegerRow, widest}
use Rattle.integer_tableau.specs.Rows.{row_in}
use Rattle.integer_tableau.specs.Tables.{width_of}
use Rattle.integer_tableau.proofs.Turned.{size_below}
use Rattle.integer_tableau.proofs.table.WholeTable.take_objective.Goals as goal

pub returns-clause-kept : goal.returns-clause-kept
returns-clause-kept g c done =
    let w = width_of c.args.self.now in
    let numbers = c.args.self.now.objective.numbers in
    let row = c.take_numbers.new.row in
    let out = c.widen.new.out in
    let taken = c.as_slice.ensures.value ∙ take_past c.args.self.now.line.len row (drop (length row) c.args.self.now.line.items) (c.take_numbers.auto.row ∙ c.as_mut_slice.ensures.len) in
    let is : take numbers.len (out ++ drop (length out) numbers.items) ≡ row = take_past numbers.len out (drop (length out) numbers.items) (c.widen.auto.out ∙ c.as_mut_slice-2.ensures.len) ∙ c.widen.ensures ∙ taken in
    let line = subst (λ (k : ℕ). IsIntegerRow widest k (row_in k row)) c.requires.width (c.take_numbers.ensures.within c.if-not-take_numbers.false) in
    let there = subst (λ (zs : List ℤ). IsIntegerRow widest w (row_in w zs)) (sym is) line in
    record { line = there; size = size_below widest w _ there }
