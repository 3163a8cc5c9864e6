-- The sums over a measure, each step with a limit.
use Rattle.std.specs.Prelude.{ℕ, List, Bool, false, if◌then◌else◌, pos, Result, Ok}
use Rattle.std.specs.List.{list_all}
use Rattle.exact_num.specs.declared.misfit.Wide.{Wide}
use Rattle.exact_num.specs.Fraction.{Fraction, whole}
use Rattle.exact_num.specs.Fits.{sub_of, after}
use Rattle.exact_num.specs.Steps.{fold_steps, plus_product}
use Rattle.exact_num.specs.Tests.{is_same, is_above_zero, is_not_below_zero}
use Rattle.form.specs.declared.orders.Side.{Side}
use Rattle.form.specs.declared.orders.Side.TheVariants.{Buy, Sell}
use Rattle.form.specs.declared.orders.Order.{Order}
use Rattle.form.specs.Payoff.{BundleLeg, bundle_of, scale_of}
use Rattle.form.specs.Steps.{bundle_payoff_of}
use Rattle.clearing_model.specs.Certificate.{Point}

-- whether no weight is below 0
abbrev pub is_weight : Point → Bool
is_weight point = is_not_below_zero point.1

abbrev pub are_weights : List Point → Bool
are_weights points = list_all is_weight points

-- the total and weight times t of a point
abbrev pub add_mass : ℕ → Fraction → Point → Result Fraction Wide
add_mass limit total point = plus_product limit total point.1 (whole (pos (scale_of point.0)))

abbrev pub mass_of : ℕ → List Point → Result Fraction Wide
mass_of limit points = fold_steps (add_mass limit) (whole (pos 0)) points

-- whether no weight is below 0 and the sum of weight times t is 1
abbrev pub has_unit_mass : ℕ → List Point → Result Bool Wide
has_unit_mass limit points =
    if are_weights points then after (mass_of limit points) (λ sum. Ok (is_same sum (whole (pos 1)))) else Ok false

-- the total and weight times payoff of a point
abbrev pub add_price : ℕ → List BundleLeg → Fraction → Point → Result Fraction Wide
add_price limit bundle total point =
    after (bundle_payoff_of limit bundle point.0) (λ h. plus_product limit total point.1 h)

-- the price of a bundle
abbrev pub price_of : ℕ → List BundleLeg → List Point → Result Fraction Wide
price_of limit bundle points = fold_steps (add_price limit bundle) (whole (pos 0)) points

-- for a buy how far the limit is above the price, and for a sell how far below
abbrev pub gain_at : ℕ → Side → Fraction → Fraction → Result Fraction Wide
gain_at limit Buy bid price = sub_of limit bid price
gain_at limit Sell ask price = sub_of limit price ask

-- the total and quantity times the gain, where it is above 0
abbrev pub plus_gain : ℕ → Fraction → ℕ → Fraction → Result Fraction Wide
plus_gain limit total quantity gain =
    if is_above_zero gain then plus_product limit total (whole (pos quantity)) gain else Ok total

-- the same of an order
abbrev pub add_gain : ℕ → List Point → Fraction → Order → Result Fraction Wide
add_gain limit points total o =
    after (price_of limit (bundle_of o) points)
    (λ price. after (gain_at limit o.side (whole (pos o.price)) price) (plus_gain limit total o.quantity))

-- the bound of the measure
abbrev pub bound_of : ℕ → List Order → List Point → Result Fraction Wide
bound_of limit orders points = fold_steps (add_gain limit points) (whole (pos 0)) orders
