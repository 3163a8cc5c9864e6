use Rattle.std.proofs.Common.{◌∙◌, arith, ◌^◌, ◌-◌, unsigned_abs, map}
use Rattle.std.proofs.lemmas.Result.{err_from_is_err_and}
use Rattle.form.specs.States.{vector_of}
use Rattle.master_program.specs.Master.{entry_steps}
use Rattle.pricing_oracle.proofs.Added.{goes_on, stops, ends}
use Rattle.constraint_generation.proofs.master.add_entries.Goals as goal

pub returns-in_err-entry-clause-added : goal.returns-in_err-entry-clause-added
returns-in_err-entry-clause-added g c =
    let q = err_from_is_err_and c.from_residual.result c.from_residual.ensures.1 in
    let l = c.loop-order in
    rw (q.1, q.2) (l.invariant.added ∙ stops g.N.Exact.fraction (entry_steps (2 ^ 127 - 1) (unsigned_abs g.N.Exact.LIMIT) (vector_of c.args.state.now)) l.row.items c.args.orders.now l.order-index c.order-item.result c.entry.result c.in_err-entry.field-0.0 c.loop-order-test.true c.order-item.is c.entry.ensures c.in_err-entry.was)

pub loop-order-preserved : goal.loop-order-preserved
loop-order-preserved g c =
    let l = c.loop-order in
    record {
      added = l.invariant.added ∙ goes_on g.N.Exact.fraction (entry_steps (2 ^ 127 - 1) (unsigned_abs g.N.Exact.LIMIT) (vector_of c.args.state.now)) l.row.items _ c.args.orders.now l.order-index c.order-item.result c.entry.result c.in_ok-entry.field-0 c.loop-order-test.true c.order-item.is c.entry.ensures c.in_ok-entry.was c.push_within.ensures.items;
      len = omega (arith, l.invariant.len, c.push_within.ensures.len);
      room = omega (arith, l.invariant.room, c.push_within.ensures.capacity);
    }

pub returns-clause-added : goal.returns-clause-added
returns-clause-added g c =
    let l = c.loop-order in
    l.invariant.added ∙ ends (entry_steps (2 ^ 127 - 1) (unsigned_abs g.N.Exact.LIMIT) (vector_of c.args.state.now)) (map g.N.Exact.fraction l.row.items) c.args.orders.now l.order-index c.loop-order-test.false
