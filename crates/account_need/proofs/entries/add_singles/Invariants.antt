use Rattle.std.proofs.Common.{◌≡◌, ◌++◌, filter, map, take}
use Rattle.account_need.specs.Several.{is_single_sell, owing_single}
use Rattle.account_need.proofs.entries.add_singles.Given as goal

abbrev pub invariant-loop-order : goal.invariant-loop-order
invariant-loop-order l = l.owed.items ≡ l.fn.owed.items ++ map owing_single (filter is_single_sell (take l.order-index l.live))
