use Rattle.std.proofs.Common.{[], ◌∷◌, ◌++◌, ◌∙◌, ◌^◌, ◌-◌, ap, sym, map, unsigned_abs}
use Rattle.std.proofs.lemmas.List.{map-append}
use Rattle.std.proofs.lemmas.Result.{err_from_is_err_and}
use Rattle.form.specs.States.{vector_of}
use Rattle.constraint_generation.proofs.GivenMaster.{entries_stop, row_there, slack_stops}
use Rattle.constraint_generation.proofs.master.write_state_row.Goals as goal

pub returns-in_err-add_entries-clause-written : goal.returns-in_err-add_entries-clause-written
returns-in_err-add_entries-clause-written g c =
    let q = err_from_is_err_and c.from_residual.result c.from_residual.ensures.1 in
    rw (q.1, q.2)
    (entries_stop (2 ^ 127 - 1) (unsigned_abs g.N.Exact.LIMIT) c.args.orders.now (vector_of c.args.state.now) (map g.N.Exact.fraction c.clear.new.self.items) c.in_err-add_entries.field-0.0 c.in_err-add_entries.ensures.added)

pub returns-in_err-t-clause-written : goal.returns-in_err-t-clause-written
returns-in_err-t-clause-written g c =
    let q = err_from_is_err_and c.from_residual-in_err-t.result c.from_residual-in_err-t.ensures.1 in
    let value = g.N.Exact.fraction in
    rw (q.1, q.2)
    (slack_stops (2 ^ 127 - 1) (unsigned_abs g.N.Exact.LIMIT) c.args.orders.now (vector_of c.args.state.now) (map value c.clear.new.self.items) (map value c.add_entries.new.row.items) c.in_err-t.field-0.0
    (ap (map value) c.clear.ensures.items) c.in_ok-add_entries.ensures.added (sym c.in_err-t.ensures))

pub returns-clause-written : goal.returns-clause-written
returns-clause-written g c =
    let value = g.N.Exact.fraction in
    let mid = c.add_entries.new.row.items in
    row_there (2 ^ 127 - 1) (unsigned_abs g.N.Exact.LIMIT) c.args.orders.now (vector_of c.args.state.now) (map value c.clear.new.self.items) (map value mid) (map value c.push_within.new.items.items) (value c.in_ok-t.t)
    (ap (map value) c.clear.ensures.items) c.in_ok-add_entries.ensures.added (sym c.in_ok-t.ensures)
    (ap (map value) c.push_within.ensures.items ∙ map-append value mid (c.neg.result ∷ []) ∙ ap (λ f. map value mid ++ (f ∷ [])) c.neg.ensures)
