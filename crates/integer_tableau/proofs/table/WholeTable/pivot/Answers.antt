use Rattle.std.proofs.Common.{◌≡◌, ◌∙◌, length, ap, sym, arith}
use Rattle.std.specs.Prelude.{Some}
use Rattle.run_equivalence.specs.IntegerRows.{IntegerTable}
use Rattle.run_equivalence.specs.WholePivoting.{pivot_fits, whole_pivot}
use Rattle.integer_tableau.specs.Stored.{rows_in}
use Rattle.integer_tableau.specs.Tables.{as_whole}
use Rattle.integer_tableau.proofs.Pivoting.{pivot_there, pivot_has_fit, pivot_none, pivot_moves}
use Rattle.integer_tableau.proofs.Stored.{rows_count}
use Rattle.integer_tableau.proofs.table.WholeTable.pivot.Goals as goal

pub list_column-count-requires-clause-within : goal.list_column-count-requires-clause-within
list_column-count-requires-clause-within c = (c.args.limit, c.requires.within)

pub leaving-requires-clause-within : goal.leaving-requires-clause-within
leaving-requires-clause-within c = (c.args.limit, c.list_column-count.ensures.within c.args.limit c.requires.within)

pub pivot_at-requires-clause-pivot : goal.pivot_at-requires-clause-pivot
pivot_at-requires-clause-pivot c =
    let t = c.list_column-count.new.self in
    let same : length t.basics.items ≡ length (rows_in t.rows) = omega (arith, t.count, t.basics.ok, rows_count t.rows.is_wide.items t.rows.short.rows t.rows.wide.rows) in
    pivot_there c.args.c c.in-Some.r t.labels.items t.basics.items (rows_in t.rows) (omega (arith, c.requires.column, c.list_column-count.ensures.shape.columns)) same (sym c.leaving.ensures ∙ c.in-Some.is)

pub pivot_at-requires-clause-within : goal.pivot_at-requires-clause-within
pivot_at-requires-clause-within c = c.list_column-count.ensures.within c.args.limit c.requires.within

pub returns-in-None-clause-pivoted : goal.returns-in-None-clause-pivoted
returns-in-None-clause-pivoted c =
    let same = c.list_column-count.ensures.table in (
      ap (whole_pivot c.args.c) (sym same) ∙ pivot_none c.args.c (as_whole c.list_column-count.new.self) (sym c.leaving.ensures ∙ c.in-None.is),
      same,
      c.list_column-count.ensures.within c.args.limit c.requires.within,
    )

pub returns-then-pivot_at-clause-pivoted : goal.returns-then-pivot_at-clause-pivoted
returns-then-pivot_at-clause-pivoted c =
    let place = sym c.leaving.ensures ∙ c.in-Some.is in
    let t = c.list_column-count.new.self in
    let same = c.list_column-count.ensures.table in (
      ap (whole_pivot c.args.c) (sym same) ∙ pivot_moves c.args.c c.in-Some.r (as_whole t) place ∙ ap Some (sym (c.pivot_at.ensures.table c.if-pivot_at.true)),
      ap (λ (u : IntegerTable). pivot_fits c.args.limit c.args.c u) (sym same) ∙ pivot_has_fit c.args.limit c.args.c c.in-Some.r (as_whole t) place (c.pivot_at.ensures.fits c.if-pivot_at.true),
      c.pivot_at.ensures.within c.if-pivot_at.true,
    )
