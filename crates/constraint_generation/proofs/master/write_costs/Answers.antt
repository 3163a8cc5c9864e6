use Rattle.std.proofs.Common.{[], ◌∷◌, ◌++◌, ◌∙◌, ap, map, unsigned_abs}
use Rattle.std.proofs.lemmas.List.{map-append}
use Rattle.std.proofs.lemmas.Result.{err_from_is_err_and}
use Rattle.exact_num.specs.Fraction.{negated}
use Rattle.constraint_generation.proofs.GivenMaster.{costs_stop, costs_written}
use Rattle.constraint_generation.proofs.master.write_costs.Goals as goal

pub returns-in_err-add_costs-clause-written : goal.returns-in_err-add_costs-clause-written
returns-in_err-add_costs-clause-written g c =
    let q = err_from_is_err_and c.from_residual.result c.from_residual.ensures.1 in
    rw (q.1, q.2) (costs_stop (unsigned_abs g.N.Exact.LIMIT) c.args.orders.now (map g.N.Exact.fraction c.clear.new.self.items) c.in_err-add_costs.field-0.0 c.in_err-add_costs.ensures.added)

pub returns-clause-written : goal.returns-clause-written
returns-clause-written g c =
    let value = g.N.Exact.fraction in
    let mid = c.add_costs.new.row.items in
    costs_written (unsigned_abs g.N.Exact.LIMIT) c.args.orders.now (map value c.clear.new.self.items) (map value mid) (map value c.push_within.new.items.items)
    (ap (map value) c.clear.ensures.items) c.in_ok-add_costs.ensures.added
    (ap (map value) c.push_within.ensures.items ∙ map-append value mid (c.neg.result ∷ []) ∙ ap (λ f. map value mid ++ (f ∷ [])) (c.neg.ensures ∙ ap negated c.one.ensures))
