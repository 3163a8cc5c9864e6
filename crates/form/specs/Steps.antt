-- Payoffs step by step, each step with a limit.
use Rattle.std.specs.Prelude.{ℕ, List, zip, ℤ, pos, Result, Ok, ◌≡◌}
use Rattle.exact_num.specs.declared.misfit.Wide.{Wide}
use Rattle.exact_num.specs.Fraction.{Fraction, whole}
use Rattle.exact_num.specs.Fits.{after}
use Rattle.exact_num.specs.Steps.{fold_steps, plus_product, less_product}
use Rattle.form.specs.declared.orders.Side.{Side}
use Rattle.form.specs.declared.orders.Side.TheVariants.{Buy, Sell}
use Rattle.form.specs.Vector.{positive_part, payoff, BundleLeg, bundle_payoff}

-- the total and the product of an entry of an option and one of a state
abbrev pub add_entry : ℕ → Fraction → ℤ × ℕ → Result Fraction Wide
add_entry limit total entries = plus_product limit total (whole entries.0) (whole (pos entries.1))

-- the number where it is above 0, and else 0
abbrev pub or_zero : Fraction → Fraction
or_zero x = whole (pos (positive_part x.numerator))

-- the payoff of the option at the state: a sum of whole numbers, or 0 where that is below 0
unfoldable pub payoff_of : ℕ → List ℤ → List ℕ → Result Fraction Wide
payoff_of limit v z = after (fold_steps (add_entry limit) (whole (pos 0)) (zip v z)) (λ sum. Ok (or_zero sum))

-- the total and the count times the payoff of a leg
abbrev pub add_leg : ℕ → List ℕ → Fraction → BundleLeg → Result Fraction Wide
add_leg limit z total leg =
    after (payoff_of limit leg.option z) (λ h. plus_product limit total (whole leg.count) h)

-- the payoff of the bundle at the state: a sum leg by leg that starts with 0
unfoldable pub bundle_payoff_of : ℕ → List BundleLeg → List ℕ → Result Fraction Wide
bundle_payoff_of limit legs z = fold_steps (add_leg limit z) (whole (pos 0)) legs

-- the total and the product, which a sell subtracts
abbrev pub add_for_side : ℕ → Fraction → Side → Fraction → Fraction → Result Fraction Wide
add_for_side limit total Buy a b = plus_product limit total a b
add_for_side limit total Sell a b = less_product limit total a b

-- where each step fits, that is what the option pays
abbrev pub PayoffsAreExact : Type 0
PayoffsAreExact =
    (limit : ℕ) (v : List ℤ) (z : List ℕ) (h : Fraction) → payoff_of limit v z ≡ Ok h → h ≡ whole (pos (payoff v z))

-- and likewise for bundles
abbrev pub BundlePayoffsAreExact : Type 0
BundlePayoffsAreExact =
    (limit : ℕ) (legs : List BundleLeg) (z : List ℕ) (h : Fraction)
    → bundle_payoff_of limit legs z ≡ Ok h → h ≡ whole (bundle_payoff legs z)
