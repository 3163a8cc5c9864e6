use Rattle.std.proofs.Common.{map}
use Rattle.arithmetic.proofs.Lists.{pair_of, pairs_end}
use Rattle.exact_num.proofs.Loops.{goes_on, stops, ends}
use Rattle.frac.specs.Range.{limit}
use Rattle.frac.specs.Value.{fraction_of}
use Rattle.form.specs.Payoff.{bundle_legs}
use Rattle.cert_check.specs.Cover.{add_same}
use Rattle.cert_check.proofs.balance.balance.Goals as goal

pub returns-in_err-total : goal.returns-in_err-total
returns-in_err-total c =
    stops fraction_of (add_same limit (bundle_legs c.args.bundle.now)) c.loop-i.total c.add_same.result c.from_residual.result _ _ _ _ _
    (pair_of fraction_of c.args.orders.now c.args.fills.now c.loop-i.i c.index-orders-i.result c.index-fills-i.result c.requires c.loop-i-test.true c.index-orders-i.is c.index-fills-i.is)
    c.loop-i.invariant c.add_same.ensures c.in_err-total.was c.from_residual.ensures.1

pub loop-i-preserved : goal.loop-i-preserved
loop-i-preserved c =
    goes_on fraction_of (add_same limit (bundle_legs c.args.bundle.now)) c.loop-i.total c.in_ok-total.total c.add_same.result _ _ _ _
    (pair_of fraction_of c.args.orders.now c.args.fills.now c.loop-i.i c.index-orders-i.result c.index-fills-i.result c.requires c.loop-i-test.true c.index-orders-i.is c.index-fills-i.is)
    c.loop-i.invariant c.add_same.ensures c.in_ok-total.was

pub returns : goal.returns
returns c =
    ends fraction_of (add_same limit (bundle_legs c.args.bundle.now)) c.loop-i.total _ _ (pairs_end c.args.orders.now (map fraction_of c.args.fills.now) c.loop-i.i c.loop-i-test.false) c.loop-i.invariant
