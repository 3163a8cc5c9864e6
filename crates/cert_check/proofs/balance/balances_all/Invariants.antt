use Rattle.std.proofs.Common.{◌≡◌, drop, map, zip}
use Rattle.frac.specs.Range.{limit}
use Rattle.frac.specs.Value.{fraction_of}
use Rattle.cert_check.specs.Cover.{balances_all}
use Rattle.cert_check.proofs.balance.balances_all.Given as goal

abbrev pub invariant-loop-order : goal.invariant-loop-order
invariant-loop-order l =
    balances_all limit (zip l.orders (map fraction_of l.fills)) l.orders
    ≡ balances_all limit (zip l.orders (map fraction_of l.fills)) (drop l.order-index l.orders)
