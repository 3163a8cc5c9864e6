use Rattle.std.proofs.Common.{◌≡◌, filter, map, take}
use Rattle.account_need.specs.Prices.{option_sum}
use Rattle.account_need.specs.Rounded.{is_some_sum}
use Rattle.account_need.proofs.held.form_sums.Given as goal

-- the sums so far that are not 0
abbrev pub invariant-loop-item : goal.invariant-loop-item
invariant-loop-item l = map option_sum l.sums.items ≡ filter is_some_sum (take l.item-index (map option_sum l.item-items))
