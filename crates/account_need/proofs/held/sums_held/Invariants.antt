use Rattle.std.proofs.Common.{◌≡◌, map, take}
use Rattle.account_need.specs.Prices.{option_sum}
use Rattle.account_need.specs.Rounded.{options_held, sum_of}
use Rattle.account_need.proofs.held.sums_held.Given as goal

-- the sums of the options of the positions so far
abbrev pub invariant-loop-before : goal.invariant-loop-before
invariant-loop-before l = map option_sum l.sums.items ≡ map (sum_of l.positions) (options_held (take l.before l.positions))
