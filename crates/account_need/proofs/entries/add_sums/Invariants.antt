use Rattle.std.proofs.Common.{◌≡◌, ◌++◌, map, take}
use Rattle.account_need.specs.Prices.{option_sum}
use Rattle.account_need.specs.Several.{owing_sum}
use Rattle.account_need.proofs.entries.add_sums.Given as goal

abbrev pub invariant-loop-item : goal.invariant-loop-item
invariant-loop-item l = l.owed.items ≡ l.fn.owed.items ++ map owing_sum (take l.item-index (map option_sum l.sums))
