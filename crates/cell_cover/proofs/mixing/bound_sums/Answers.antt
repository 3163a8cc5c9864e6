use Rattle.std.proofs.Common.{ap, sym, ◌∙◌}
use Rattle.std.proofs.lemmas.Result.{err_from_is_err_and}
use Rattle.exact_num.specs.Fits.{after}
use Rattle.frac.specs.Range.{limit}
use Rattle.frac.specs.Value.{fraction_of}
use Rattle.cell_cover.specs.Rows.{row_of}
use Rattle.cell_cover.specs.Walk.{with_bound}
use Rattle.cell_cover.proofs.Mixes.{step_stops, step_goes}
use Rattle.cell_cover.proofs.mixing.bound_sums.Goals as goal

pub returns-in_err-rest : goal.returns-in_err-rest
returns-in_err-rest c =
    let p = err_from_is_err_and c.from_residual.result c.from_residual.ensures.1 in
    let next = with_bound limit (fraction_of c.args.kink) (row_of c.args.entries c.args.next.now) in
    rw (p.1, p.2) (sym (ap (λ r. after r next) (step_stops (row_of c.args.entries) c.with_bound.result c.in_err-rest.field-0.0 _ c.with_bound.ensures c.in_err-rest.was)))

pub returns : goal.returns
returns c =
    let next = with_bound limit (fraction_of c.args.kink) (row_of c.args.entries c.args.next.now) in
    c.with_bound-2.ensures ∙ sym (ap (λ r. after r next) (step_goes (row_of c.args.entries) c.with_bound.result c.in_ok-rest.rest _ c.with_bound.ensures c.in_ok-rest.was))
