-- Batches matched by hand.
use Rattle.std.specs.Prelude.{ℕ, ◌+◌, ◌≡◌, List, [], ◌∷◌, ℤ, pos, negsuc}
use Rattle.form.specs.declared.limits.TheConstants.{MAX_PRICE}
use Rattle.form.specs.declared.orders.Order.{Order}
use Rattle.form.specs.declared.orders.Side.{Side}
use Rattle.form.specs.declared.orders.Side.TheVariants.{Buy, Sell}
use Rattle.form.specs.declared.bundles.Bundle.{Bundle}
use Rattle.form.specs.declared.legs.Leg.{Leg}
use Rattle.form.specs.FormOf.{form_of}
use Rattle.form.specs.BundleOf.{bundle_one, bundle_made}
use Rattle.clearing_model.specs.Clearing.{premium}
use Rattle.bundle_match.specs.Laws.{match_of}
use Rattle.bundle_match.specs.Match.{match_by_bundle}

-- an order of this number
abbrev order_on : Bundle → ℕ → Side → ℕ → ℕ → Order
order_on bundle id side price quantity =
    record { id = id; account = 1; side = side; bundle = bundle; price = price; quantity = quantity }

-- the same for the option whose strike has this entry
abbrev order_for : ℕ → Side → ℤ → ℕ → ℕ → Order
order_for id side strike price quantity =
    order_on (bundle_one (form_of (strike ∷ pos 1 ∷ []))) id side price quantity

-- the calls with the strikes 10 and 5
abbrev ten : ℤ
ten = negsuc 9

abbrev five : ℤ
five = negsuc 4

abbrev one_option : List Order
one_option =
    order_for 1 Buy ten 7 3
    ∷ order_for 2 Buy ten 6 2
    ∷ order_for 3 Sell ten 5 2
    ∷ order_for 4 Sell ten 6 2
    ∷ []

abbrev two_options : List Order
two_options =
    order_for 1 Sell five 1 1
    ∷ order_for 2 Buy ten 6 2
    ∷ order_for 3 Buy ten 7 1
    ∷ order_for 4 Buy ten 7 1
    ∷ order_for 5 Sell ten 6 1
    ∷ order_for 6 Sell ten 5 2
    ∷ []

abbrev equal_prices : List Order
equal_prices = order_for 1 Buy ten 6 1 ∷ order_for 2 Sell ten 6 1 ∷ []

-- two buys, the one with the greater number first, and a sell for one of them
abbrev buys_at : ℕ → ℕ → List Order
buys_at first second =
    order_for 2 Buy ten first 1 ∷ order_for 1 Buy ten second 1 ∷ order_for 3 Sell ten 5 1 ∷ []

-- 1 of the call 10 and -1 of the call 12, and the same legs the other way round
abbrev leg_on : ℤ → ℤ → Leg
leg_on count strike = record { count = count; form = form_of (strike ∷ pos 1 ∷ []) }

abbrev spread : Bundle
spread = bundle_made (leg_on (pos 1) ten ∷ leg_on (negsuc 0) (negsuc 11) ∷ [])

abbrev spread_turned : Bundle
spread_turned = bundle_made (leg_on (negsuc 0) (negsuc 11) ∷ leg_on (pos 1) ten ∷ [])

-- a buy of the spread at 3, and a sell at 2
abbrev spreads : Bundle → List Order
spreads sold = order_on spread 1 Buy 3 1 ∷ order_on sold 2 Sell 2 1 ∷ []

pub record BatchesByHand : Type 0 where
  -- the buy at 7 takes 2 of the sell at 5 and 1 of the sell at 6; the buy at 6 is not above the
  -- sell that is left
  pub one_option_matched : match_by_bundle one_option ≡ 3 ∷ 0 ∷ 2 ∷ 1 ∷ []
  -- 3 * 7 less 2 * 5 and 6
  pub one_option_earns : premium (match_of one_option) ≡ pos 5
  -- the sell at 1 is of another option; the buys at 7 come before the one at 6, and the sell at 5
  -- before the other
  pub two_options_matched : match_by_bundle two_options ≡ 0 ∷ 0 ∷ 1 ∷ 1 ∷ 0 ∷ 2 ∷ []
  -- equal prices stay
  pub equal_prices_stay : match_by_bundle equal_prices ≡ 0 ∷ 0 ∷ []
  -- at one price the smaller number comes first
  pub number_decides : match_by_bundle (buys_at 7 7) ≡ 0 ∷ 1 ∷ 1 ∷ []
  -- a spread meets its own
  pub spreads_meet : match_by_bundle (spreads spread) ≡ 1 ∷ 1 ∷ []
  -- legs in another order are another bundle
  pub order_of_legs_decides : match_by_bundle (spreads spread_turned) ≡ 0 ∷ 0 ∷ []
  -- past the greatest price the higher price still does
  pub price_decides : match_by_bundle (buys_at (MAX_PRICE + 2) (MAX_PRICE + 1)) ≡ 1 ∷ 0 ∷ 1 ∷ []
