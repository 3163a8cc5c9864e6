use Rattle.std.proofs.Common.{◌≡◌, drop, map}
use Rattle.form.specs.Payoff.{option_of}
use Rattle.account_need.specs.Prices.{option_sum}
use Rattle.account_need.specs.Rounded.{option_in}
use Rattle.account_need.proofs.EachOnce.{has}
use Rattle.account_need.proofs.held.has.Given as goal

abbrev pub invariant-loop-item : goal.invariant-loop-item
invariant-loop-item l =
    let options = map option_in (map option_sum l.sums) in
    has options (option_of l.form) ≡ has (drop l.item-index options) (option_of l.form)
