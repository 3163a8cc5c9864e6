use Rattle.std.proofs.Common.{◌≡◌, ◌+◌, ◌*◌, ◌≤◌, drop}
use Rattle.sign_tree.specs.Legs.{leg_count}
use Rattle.journal_check.proofs.findings.leg_count.Given as goal

abbrev pub invariant-loop-order : goal.invariant-loop-order
invariant-loop-order l = record {
  total : l.count + leg_count (drop l.order-index l.orders) ≡ leg_count l.orders;
  few : l.count ≤ 4 * l.order-index;
}
