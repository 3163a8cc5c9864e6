-- Weighted states, the prices that they give, and the bound on every surplus.
use Rattle.std.specs.Prelude.{ℕ, ◌*◌, ◌≡◌, ◌≤◌, List, ℤ, pos, ◌-ℤ◌, ◌*ℤ◌, ◌≤ℤ◌}
use Rattle.std.specs.List.{All}
use Rattle.form.specs.Sums.{weigh, total}
use Rattle.form.specs.Fraction.{Fraction}
use Rattle.form.specs.CommonDenominator.{IsRatio}
use Rattle.form.specs.declared.orders.Side.{Side}
use Rattle.form.specs.declared.orders.Side.TheVariants.{Buy, Sell}
use Rattle.form.specs.declared.orders.Order.{Order}
use Rattle.form.specs.Payoff.{IsState, scale_of, BundleLeg, bundle_of, bundle_payoff, positive_part}

-- a state and its whole weight, which may be below 0
abbrev pub WeightedState : Type 0
WeightedState = List ℕ × ℤ

-- the sum of weight times t: over W, the price of what always pays 1
abbrev pub mass_of : List WeightedState → ℤ
mass_of points = total (λ (point : WeightedState). point.1 *ℤ pos (scale_of point.0)) points

-- a state whose weight is not below 0
abbrev pub IsWeighted : ℕ → WeightedState → Type 0
IsWeighted n point = IsState n point.0 × (pos 0 ≤ℤ point.1)

-- the weights, over W, are those of a measure
abbrev pub IsMeasure : ℕ → List WeightedState → ℕ → Type 0
IsMeasure n points W = (1 ≤ W) × All (IsWeighted n) points × (mass_of points ≡ pos W)

-- the price of a bundle, over W: the sum of weight times payoff
abbrev pub price_of : List BundleLeg → List WeightedState → ℤ
price_of bundle points = total (λ (point : WeightedState). point.1 *ℤ bundle_payoff bundle point.0) points

-- for a buy how far the limit is above the price, and for a sell how far below, or 0
abbrev pub gain : Side → ℤ → ℤ → ℕ
gain Buy limit price = positive_part (limit -ℤ price)
gain Sell limit price = positive_part (price -ℤ limit)

-- an order's gain at the measure's price, over W
abbrev pub gain_of : List WeightedState → ℕ → Order → ℕ
gain_of points W o = gain o.side (pos (o.price * W)) (price_of (bundle_of o) points)

-- the bound, over W: an order counts whether it is filled or not
abbrev pub bound_of : List Order → List WeightedState → ℕ → ℕ
bound_of orders points W = weigh (λ (o : Order). o.quantity) (gain_of points W) orders

-- the bound of the measure is S
abbrev pub Proves : List Order → List WeightedState → ℕ → Fraction → Type 0
Proves orders points W S = IsRatio S (pos (bound_of orders points W)) W
