use Rattle.std.proofs.Common.{◌≡◌, drop, map, zip}
use Rattle.exact_num.specs.Steps.{fold_steps}
use Rattle.frac.specs.Range.{limit}
use Rattle.frac.specs.Value.{fraction_of}
use Rattle.form.specs.Payoff.{bundle_legs}
use Rattle.cert_check.specs.Cover.{add_same, balance_of}
use Rattle.cert_check.proofs.balance.balance.Given as goal

abbrev pub invariant-loop-i : goal.invariant-loop-i
invariant-loop-i l =
    let fills = zip l.orders (map fraction_of l.fills) in
    balance_of limit fills (bundle_legs l.bundle)
    ≡ fold_steps (add_same limit (bundle_legs l.bundle)) (fraction_of l.total) (drop l.i fills)
