use Rattle.std.proofs.Common.{◌≡◌, ◌+◌, ◌*◌, ◌≤◌, drop, [], ◌∷◌}
use Rattle.account_need.specs.Exposure.{losses_at}
use Rattle.account_need.proofs.costs.losses.Given as goal

abbrev pub invariant-loop-order : goal.invariant-loop-order
invariant-loop-order l =
    let z = l.at.t ∷ l.at.s ∷ [] in
    record {
      left : l.total + losses_at z (drop l.order-index l.live) ≡ losses_at z l.live;
      small : l.total ≤ l.order-index * 8000000000000000000000;
    }
