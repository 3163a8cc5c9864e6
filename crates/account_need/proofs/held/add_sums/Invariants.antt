use Rattle.std.proofs.Common.{◌≡◌, ◌++◌, List, map, take}
use Rattle.form.specs.Payoff.{bundle_legs}
use Rattle.settlement.specs.declared.position.Position.{Position}
use Rattle.account_need.specs.Prices.{option_sum}
use Rattle.account_need.specs.Rounded.{each_once, options_at, options_of, sum_of}
use Rattle.account_need.proofs.held.add_sums.Given as goal

abbrev pub invariant-loop-leg : goal.invariant-loop-leg
invariant-loop-leg l =
    (before : List Position) → map option_sum l.fn.sums.items ≡ map (sum_of (before ++ l.left)) (each_once (options_at before))
    → map option_sum l.sums.items ≡ map (sum_of (before ++ l.left)) (each_once (options_at before ++ take l.leg-index (options_of (bundle_legs l.bundle))))
