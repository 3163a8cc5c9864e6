use Rattle.std.proofs.Common.{◌∙◌, ap, map, List, ℕ}
use Rattle.simplex_run.specs.Choice.{entering, least_below}
use Rattle.fraction_tableau.proofs.table.Table.entering.Goals as goal

pub returns-clause-column : goal.returns-clause-column
unfolding entering
returns-clause-column g c =
    let value = g.N.Exact.fraction in
    c.least_column.ensures.column
    ∙ ap (λ (vs : List ℕ). least_below 0 vs (map value c.as_slice-2.result.now)) c.as_slice.ensures.value
    ∙ ap (λ (xs : List g.row.N.Denot). least_below 0 c.args.self.now.labels.items (map value xs)) c.as_slice-2.ensures.value
