use Rattle.std.proofs.Common.{◌∙◌, arith, unsigned_abs, map}
use Rattle.std.proofs.lemmas.Result.{err_from_is_err_and}
use Rattle.master_program.specs.Master.{cost_steps}
use Rattle.pricing_oracle.proofs.Added.{goes_on, stops, ends}
use Rattle.constraint_generation.proofs.master.add_costs.Goals as goal

pub returns-in_err-cost-clause-added : goal.returns-in_err-cost-clause-added
returns-in_err-cost-clause-added g c =
    let q = err_from_is_err_and c.from_residual.result c.from_residual.ensures.1 in
    let l = c.loop-order in
    rw (q.1, q.2) (l.invariant.added ∙ stops g.N.Exact.fraction (cost_steps (unsigned_abs g.N.Exact.LIMIT)) l.row.items c.args.orders.now l.order-index c.order-item.result c.cost.result c.in_err-cost.field-0.0 c.loop-order-test.true c.order-item.is c.cost.ensures c.in_err-cost.was)

pub loop-order-preserved : goal.loop-order-preserved
loop-order-preserved g c =
    let l = c.loop-order in
    record {
      added = l.invariant.added ∙ goes_on g.N.Exact.fraction (cost_steps (unsigned_abs g.N.Exact.LIMIT)) l.row.items _ c.args.orders.now l.order-index c.order-item.result c.cost.result c.in_ok-cost.field-0 c.loop-order-test.true c.order-item.is c.cost.ensures c.in_ok-cost.was c.push_within.ensures.items;
      len = omega (arith, l.invariant.len, c.push_within.ensures.len);
      room = omega (arith, l.invariant.room, c.push_within.ensures.capacity);
    }

pub returns-clause-added : goal.returns-clause-added
returns-clause-added g c =
    let l = c.loop-order in
    l.invariant.added ∙ ends (cost_steps (unsigned_abs g.N.Exact.LIMIT)) (map g.N.Exact.fraction l.row.items) c.args.orders.now l.order-index c.loop-order-test.false
