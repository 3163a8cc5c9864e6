use Rattle.std.proofs.Common.{◌≡◌, ◌*◌, ◌≤◌, drop, map, [], ◌∷◌, ◌+ℤ◌, unsigned_abs}
use Rattle.account_need.specs.Prices.{option_sum}
use Rattle.account_need.specs.Rounded.{owed_of}
use Rattle.account_need.proofs.exposure.owed.Given as goal

-- what is owed of the sums so far, and of those that are left
abbrev pub invariant-loop-item : goal.invariant-loop-item
invariant-loop-item l =
    let z = l.at.t ∷ l.at.s ∷ [] in
    record {
      owed : owed_of z (map option_sum l.sums) ≡ l.total +ℤ owed_of z (drop l.item-index (map option_sum l.sums));
      small : unsigned_abs l.total ≤ l.item-index * 144115188075855872000000000000000000;
    }
