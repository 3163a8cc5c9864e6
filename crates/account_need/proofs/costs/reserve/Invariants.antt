use Rattle.std.proofs.Common.{◌≡◌, ◌+◌, ◌*◌, ◌≤◌, drop}
use Rattle.account_need.specs.Exposure.{reserve_of}
use Rattle.account_need.proofs.costs.reserve.Given as goal

abbrev pub invariant-loop-order : goal.invariant-loop-order
invariant-loop-order l = record {
  left : l.total + reserve_of (drop l.order-index l.live) ≡ reserve_of l.live;
  small : l.total ≤ l.order-index * 1000000000000000000;
}
