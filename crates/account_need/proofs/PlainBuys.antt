-- Buys of counts above 0 lose no more than their premiums.
use Rattle.std.proofs.Common.{◌≡◌, ℕ, List, [], ◌∷◌, true, arith, ℤ, pos, neg_ℤ, ◌≤ℤ◌}
use Rattle.std.specs.Prelude.{int_lt}
use Rattle.std.proofs.lemmas.Bool.{and_parts}
use Rattle.std.proofs.lemmas.Int.{ints}
use Rattle.arithmetic.specs.Sums.{positive_part}
use Rattle.arithmetic.proofs.Integers.{*ℤ_mono}
use Rattle.arithmetic.proofs.Parts.{part_below}
use Rattle.arithmetic.proofs.Tests.{int_lt-yes}
use Rattle.form.specs.declared.orders.Side.{Side}
use Rattle.form.specs.declared.orders.Side.TheVariants.{Buy, Sell}
use Rattle.form.specs.Payoff.{BundleLeg, bundle_payoff, payoff}
use Rattle.account_need.specs.Exposure.{cost_by}
use Rattle.account_need.specs.Several.{has_plain_legs, if_buy_then}

plain_pays : (legs : List BundleLeg) (z : List ℕ) → has_plain_legs legs ≡ true → pos 0 ≤ℤ bundle_payoff legs z
plain_pays [] z e = omega (arith, ints)
plain_pays (leg ∷ legs) z e =
    let parts = and_parts (int_lt (pos 0) leg.count) (has_plain_legs legs) e in
    let above = int_lt-yes (pos 0) leg.count parts.0 in
    let some : pos 0 ≤ℤ leg.count = omega (arith, ints, above) in
    omega (arith, ints, *ℤ_mono (payoff leg.option z) (pos 0) leg.count some, plain_pays legs z parts.1)

pub plain_loses : (side : Side) (legs : List BundleLeg) (paid : ℕ) (z : List ℕ) → if_buy_then side (has_plain_legs legs) ≡ true → positive_part (cost_by side paid (bundle_payoff legs z)) ≡ 0
plain_loses Sell legs paid z e = absurd (cc)
plain_loses Buy legs paid z e = part_below (neg_ℤ (bundle_payoff legs z)) (omega (arith, ints, plain_pays legs z e))
