use Rattle.std.proofs.Common.{◌≡◌, ◌+◌, ◌≤◌, drop}
use Rattle.members.specs.Members.{own_live}
use Rattle.members.proofs.live.own_live.Given as goal

abbrev pub invariant-loop-order : goal.invariant-loop-order
invariant-loop-order l = record {
  left : l.count + own_live l.owners l.session (drop l.order-index l.orders) ≡ own_live l.owners l.session l.orders;
  small : l.count ≤ l.order-index;
}
