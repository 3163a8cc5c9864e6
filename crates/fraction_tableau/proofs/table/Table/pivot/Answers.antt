use Rattle.std.proofs.Common.{◌∙◌, sym, ap}
use Rattle.std.specs.Prelude.{Ok}
use Rattle.std.proofs.lemmas.Result.{err_from_is_err_and}
use Rattle.exact_num.specs.Fits.{written_back}
use Rattle.simplex_run.specs.Run.{moved_or_stopped}
use Rattle.fraction_tableau.specs.Tables.{as_table}
use Rattle.fraction_tableau.proofs.Pivoting.{pivot_none, pivot_stops, pivot_moves}
use Rattle.fraction_tableau.proofs.table.Table.pivot.Goals as goal

pub returns-in_err-leaving-clause-pivoted : goal.returns-in_err-leaving-clause-pivoted
returns-in_err-leaving-clause-pivoted g c =
    let p = err_from_is_err_and c.from_residual.result c.from_residual.ensures.1 in
    rw (p.1, p.2) (pivot_stops _ _ _ _ (sym c.leaving.ensures.place ∙ c.in_err-leaving.was))

pub pivot_at-requires-clause-pivot : goal.pivot_at-requires-clause-pivot
pivot_at-requires-clause-pivot g c = c.leaving.ensures.pivot c.in-Some.r (c.in_ok-leaving.was ∙ ap Ok c.in-Some.is)

pub returns-in_err-pivot_at-in-Some-clause-pivoted : goal.returns-in_err-pivot_at-in-Some-clause-pivoted
returns-in_err-pivot_at-in-Some-clause-pivoted g c =
    let p = err_from_is_err_and c.from_residual-in_err-pivot_at-in-Some.result c.from_residual-in_err-pivot_at-in-Some.ensures.1 in
    let place = sym c.leaving.ensures.place ∙ c.in_ok-leaving.was ∙ ap Ok c.in-Some.is in
    let stop = sym c.pivot_at.ensures.table ∙ ap (λ r. written_back r (as_table g.N.Exact.fraction c.pivot_at.new.self)) c.in_err-pivot_at-in-Some.was in
    rw (p.1, p.2) (sym (pivot_moves _ _ _ (as_table g.N.Exact.fraction c.args.self.now) place ∙ ap moved_or_stopped stop))

pub returns-in-None-clause-pivoted : goal.returns-in-None-clause-pivoted
returns-in-None-clause-pivoted g c = pivot_none _ _ _ (sym c.leaving.ensures.place ∙ c.in_ok-leaving.was ∙ ap Ok c.in-None.is)

pub returns-in_ok-pivot_at-in-Some-clause-pivoted : goal.returns-in_ok-pivot_at-in-Some-clause-pivoted
returns-in_ok-pivot_at-in-Some-clause-pivoted g c =
    let place = sym c.leaving.ensures.place ∙ c.in_ok-leaving.was ∙ ap Ok c.in-Some.is in
    let next = sym c.pivot_at.ensures.table ∙ ap (λ r. written_back r (as_table g.N.Exact.fraction c.pivot_at.new.self)) c.in_ok-pivot_at-in-Some.was in
    sym (pivot_moves _ _ _ (as_table g.N.Exact.fraction c.args.self.now) place ∙ ap moved_or_stopped next)
