use Rattle.std.proofs.Common.{◌+◌, ◌-◌, ◌∙◌, sym, length, take, drop}
use Rattle.fraction_tableau.specs.SparseEntries.{row_with}
use Rattle.fraction_tableau.proofs.Parts.{row_of_part}
use Rattle.fraction_tableau.proofs.sparse.SparseProgram.entries.Goals as goal

pub returns-clause-row : goal.returns-clause-row
returns-clause-row g c =
    let value = g.N.Exact.fraction in
    let s = c.args.self.now in
    let width = length s.costs.items + 1 in
    (λ k. row_with value width (take (c.end-end.ensures.end k - c.start-start.ensures.start k) (drop (c.start-start.ensures.start k) (c.deref.ensures.value k))))
    ∙ sym (row_of_part value width s.entries.items 0 s.ends.items c.args.i c.requires)
