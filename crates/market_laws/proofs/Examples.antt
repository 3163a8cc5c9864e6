-- The definitions compute: a call and a put with strike 100, at the price 120, at 130 / 2 and at
-- the ray; a spread; legs.
use Rattle.std.proofs.Common.{◌≡◌, ◌^◌, List, [], ◌∷◌, ℤ, pos, negsuc, refl}
use Rattle.exact_num.specs.CommonDenominator.{common_denominator, amounts_of}
use Rattle.exact_num.specs.Fraction.{Fraction}
use Rattle.form.specs.declared.orders.Side.TheVariants.{Buy, Sell}
use Rattle.form.specs.Payoff.{payoff, BundleLeg, bundle_payoff}
use Rattle.clearing_model.specs.Legs.{Long, Short, filled_leg}
use Rattle.clearing_model.specs.Measure.{price_of, gain}

abbrev call : List ℤ
call = negsuc 99 ∷ pos 1 ∷ []

abbrev put : List ℤ
put = pos 100 ∷ negsuc 0 ∷ []

call_at_120 : payoff call (1 ∷ 120 ∷ []) ≡ 20
call_at_120 = refl

put_at_65 : payoff put (2 ∷ 130 ∷ []) ≡ 70
put_at_65 = refl

call_at_the_ray : payoff call (0 ∷ 1 ∷ []) ≡ 1
call_at_the_ray = refl

-- two calls less three puts
abbrev mixed : List BundleLeg
mixed = record { count = pos 2; option = call } ∷ record { count = negsuc 2; option = put } ∷ []

mixed_at_120 : bundle_payoff mixed (1 ∷ 120 ∷ []) ≡ pos 40
mixed_at_120 = refl

mixed_at_65 : bundle_payoff mixed (2 ∷ 130 ∷ []) ≡ negsuc 209
mixed_at_65 = refl

-- its price over weights that sum to 2, and what a buy at 3 and a sell at 3 gain at that price
mixed_price : price_of mixed ((1 ∷ 120 ∷ [], pos 1) ∷ (1 ∷ 90 ∷ [], pos 1) ∷ []) ≡ pos 10
mixed_price = refl

buyer_gains : gain Buy (pos 6) (pos 10) ≡ 0
buyer_gains = refl

seller_gains : gain Sell (pos 6) (pos 10) ≡ 4
seller_gains = refl

bought_put_is_short : filled_leg Buy 5 (record { count = negsuc 2; option = put }) ≡ record { exposure = Short; amount = 15; option = put }
bought_put_is_short = refl

sold_put_is_long : filled_leg Sell 5 (record { count = negsuc 2; option = put }) ≡ record { exposure = Long; amount = 15; option = put }
sold_put_is_long = refl

abbrev halves_and_thirds : List Fraction
halves_and_thirds = record { numerator = pos 1; denominator = 2 } ∷ record { numerator = pos 2; denominator = 3 } ∷ []

over_six : common_denominator halves_and_thirds ≡ 6
over_six = refl

three_and_four : amounts_of halves_and_thirds ≡ 3 ∷ 4 ∷ []
three_and_four = refl

-- a fraction of a law has no limit of size
large : Fraction
large = record { numerator = pos (2 ^ 200); denominator = 2 ^ 130 }
