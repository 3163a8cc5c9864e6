use Rattle.std.proofs.Common.{◌≡◌, drop, map}
use Rattle.std.specs.List.{list_any}
use Rattle.account_need.specs.Account.{is_large}
use Rattle.account_need.specs.Prices.{option_sum}
use Rattle.account_need.proofs.account.are_large.Given as goal

abbrev pub invariant-loop-item : goal.invariant-loop-item
invariant-loop-item l = list_any is_large (map option_sum l.sums) ≡ list_any is_large (drop l.item-index (map option_sum l.sums))
