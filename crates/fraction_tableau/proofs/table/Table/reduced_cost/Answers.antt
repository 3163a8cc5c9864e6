use Rattle.std.proofs.Common.{◌<◌, ◌∙◌, sym, arith, length}
use Rattle.std.proofs.lemmas.List.{length-map}
use Rattle.simplex_run.specs.Places.{fraction_zero}
use Rattle.simplex_run.specs.Table.{no_entry}
use Rattle.fraction_tableau.specs.Tables.{columns_of, objective_of}
use Rattle.fraction_tableau.proofs.EntrySteps.{at-map}
use Rattle.fraction_tableau.proofs.Reading.{place_inside, filled_found, filled_missing}
use Rattle.fraction_tableau.proofs.table.Table.reduced_cost.Goals as goal

pub returns-in-None : goal.returns-in-None
returns-in-None g c =
    let t = c.args.self.now in
    c.zero.ensures ∙ sym (filled_missing no_entry c.args.j (columns_of t) t.labels.items (objective_of g.N.Exact.fraction t) c.requires c.in-None.ensures)

pub returns-in-Some : goal.returns-in-Some
returns-in-Some g c =
    let value = g.N.Exact.fraction in
    let t = c.args.self.now in
    let k = c.in-Some.c in
    let objective = objective_of value t in
    let low = place_inside c.args.j t.labels.items k c.in-Some.ensures in
    let long : length t.labels.items < length t.objective.items = omega (arith, t.columns, t.labels.ok, t.objective.ok) in
    sym (
    filled_found fraction_zero no_entry c.args.j (columns_of t) t.labels.items objective k (omega (arith, long, length-map t.objective.items value)) c.in-Some.ensures
    ∙ at-map value t.objective.items k c.index.result.now (omega (arith, low, long)) c.index.ensures
    )
