-- The exchange of single options is the case of bundles of one leg with count 1: there every
-- definition is the plain one.
use Rattle.std.specs.Prelude.{ℕ, ◌-◌, ◌≡◌, List, [], ◌∷◌, map, ℤ, pos, ◌+ℤ◌, ◌-ℤ◌, ◌*ℤ◌}
use Rattle.std.specs.List.{All}
use Rattle.arithmetic.specs.Sums.{weigh}
use Rattle.form.specs.declared.orders.Side.{Side}
use Rattle.form.specs.declared.orders.Side.TheVariants.{Buy, Sell}
use Rattle.form.specs.declared.orders.Order.{Order}
use Rattle.form.specs.Payoff.{payoff, one, bundle_of, bundle_payoff}
use Rattle.clearing_model.specs.Clearing.{Filled, bought, sold, net}
use Rattle.clearing_model.specs.Legs.{Exposure, Long, Short, FilledLeg, legs_of}
use Rattle.clearing_model.specs.Measure.{WeightedState, price_of, gain}

-- the price of an option, over W: the sum of weight times payoff
abbrev pub option_price : List ℤ → List WeightedState → ℤ
option_price v [] = pos 0
option_price v (point ∷ points) = (point.1 *ℤ pos (payoff v point.0)) +ℤ option_price v points

-- such a bundle pays what its option pays, and has its price
abbrev pub OneLegPaysItsOption : Type 0
OneLegPaysItsOption =
    ((v : List ℤ) (z : List ℕ) → bundle_payoff (one v) z ≡ pos (payoff v z))
    × ((v : List ℤ) (points : List WeightedState) → price_of (one v) points ≡ option_price v points)

-- between numbers that are not below 0 a gain is a difference that stops at 0
abbrev pub GainsAreDifferences : Type 0
GainsAreDifferences = (limit price : ℕ) → (gain Buy (pos limit) (pos price) ≡ limit - price) × (gain Sell (pos limit) (pos price) ≡ price - limit)

abbrev pub exposure_of_side : Side → Exposure
exposure_of_side Buy = Long
exposure_of_side Sell = Short

-- the leg of an order of one option: a buy is long, a sell is short
abbrev pub single_leg : (Order → List ℤ) → Filled → FilledLeg
single_leg v fill = record { exposure = exposure_of_side fill.0.side; amount = fill.1; option = v fill.0 }

-- each order is one leg with count 1, of the option v
abbrev pub AreSingle : (Order → List ℤ) → List Filled → Type 0
AreSingle v fills = All (λ (fill : Filled). bundle_of fill.0 ≡ one (v fill.0)) fills

-- then the legs are the orders
abbrev pub LegsAreOrders : Type 0
LegsAreOrders = (v : Order → List ℤ) (fills : List Filled) → AreSingle v fills → legs_of fills ≡ map (single_leg v) fills

-- and the net is the sum of amount times payoff over the buys, less the same sum over the sells
abbrev pub NetIsOfOptions : Type 0
NetIsOfOptions =
    (v : Order → List ℤ) (fills : List Filled) (z : List ℕ) → AreSingle v fills
    → net fills z ≡ pos (weigh bought (λ (fill : Filled). payoff (v fill.0) z) fills) -ℤ pos (weigh sold (λ (fill : Filled). payoff (v fill.0) z) fills)
