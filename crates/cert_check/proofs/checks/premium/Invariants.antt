use Rattle.std.proofs.Common.{◌≡◌, drop, map, zip}
use Rattle.exact_num.specs.Steps.{fold_steps}
use Rattle.frac.specs.Range.{limit}
use Rattle.frac.specs.Value.{fraction_of}
use Rattle.cert_check.specs.Tests.{add_premium, premium_of}
use Rattle.cert_check.proofs.checks.premium.Given as goal

abbrev pub invariant-loop-i : goal.invariant-loop-i
invariant-loop-i l =
    let fills = zip l.orders (map fraction_of l.fills) in
    premium_of limit fills ≡ fold_steps (add_premium limit) (fraction_of l.total) (drop l.i fills)
