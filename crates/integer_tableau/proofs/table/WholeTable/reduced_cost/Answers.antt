use Rattle.std.proofs.Common.{◌≤◌, ◌∙◌, sym, arith, length}
use Rattle.integer_tableau.specs.Tables.{as_whole}
use Rattle.integer_tableau.proofs.ReadOff.{price_found, price_missing}
use Rattle.integer_tableau.proofs.table.WholeTable.reduced_cost.Goals as goal

pub returns-in-None : goal.returns-in-None
returns-in-None g c =
    c.zero.ensures ∙ sym (price_missing (as_whole c.args.self.now) c.args.j c.requires.within.objective.line.positive c.requires.variable c.in-None.ensures)

pub returns-in-Some : goal.returns-in-Some
returns-in-Some g c =
    let t = as_whole c.args.self.now in
    let long : length t.labels ≤ length t.objective.numbers = (let e = c.requires.within.objective.line.count in omega (arith, e)) in
    c.price.ensures ∙ sym (price_found t c.args.j c.in-Some.k long c.in-Some.ensures)
