use Rattle.std.proofs.Common.{map, unsigned_abs}
use Rattle.arithmetic.proofs.Lists.{pair_of, pairs_end}
use Rattle.exact_num.proofs.Loops.{goes_on, stops, ends}
use Rattle.master_program.specs.Reading.{add_owed}
use Rattle.constraint_generation.proofs.reading.amount_owed.Goals as goal

pub returns-in_err-total : goal.returns-in_err-total
returns-in_err-total g c =
    stops g.N.Exact.fraction (add_owed (unsigned_abs g.N.Exact.LIMIT)) c.loop-i.total c.add_owed.result c.from_residual.result _ _ _ _ _
    (pair_of g.N.Exact.fraction c.args.orders.now c.args.fills.now c.loop-i.i c.index-orders-i.result c.index-fills-i.result c.requires c.loop-i-test.true c.index-orders-i.is c.index-fills-i.is)
    c.loop-i.invariant c.add_owed.ensures c.in_err-total.was c.from_residual.ensures.1

pub loop-i-preserved : goal.loop-i-preserved
loop-i-preserved g c =
    goes_on g.N.Exact.fraction (add_owed (unsigned_abs g.N.Exact.LIMIT)) c.loop-i.total c.in_ok-total.total c.add_owed.result _ _ _ _
    (pair_of g.N.Exact.fraction c.args.orders.now c.args.fills.now c.loop-i.i c.index-orders-i.result c.index-fills-i.result c.requires c.loop-i-test.true c.index-orders-i.is c.index-fills-i.is)
    c.loop-i.invariant c.add_owed.ensures c.in_ok-total.was

pub returns : goal.returns
returns g c =
    ends g.N.Exact.fraction (add_owed (unsigned_abs g.N.Exact.LIMIT)) c.loop-i.total _ _
    (pairs_end c.args.orders.now (map g.N.Exact.fraction c.args.fills.now) c.loop-i.i c.loop-i-test.false) c.loop-i.invariant
