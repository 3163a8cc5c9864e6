-- Premiums and payouts, worked by hand.
use Rattle.std.specs.Prelude.{◌≡◌, [], ◌∷◌, pos, negsuc}
use Rattle.exact_num.specs.Fraction.{over, whole}
use Rattle.form.specs.declared.orders.Side.TheVariants.{Buy, Sell}
use Rattle.form.specs.Payoff.{one}
use Rattle.settlement.specs.Payout.{gain_of}
use Rattle.settlement.specs.Premium.{premium_of}

-- a buy of 1 at 6, a sell of 2/7 at 8 and a sell of 5/7 at 4: 16/7 and 20/7 are rounded down to 2.
-- A buyer would pay 3
pub record PremiumsByHand : Type 0 where
  pub bought : premium_of Buy (whole (pos 1)) 6 ≡ 6
  pub sold : premium_of Sell (over (pos 2) 7) 8 ≡ 2
  pub sold_higher : premium_of Sell (over (pos 5) 7) 4 ≡ 2
  pub bought_part : premium_of Buy (over (pos 2) 7) 8 ≡ 3

-- at the price 11 the call with strike 10 pays 1, that with strike 5 pays 6 and that with strike 12
-- nothing: the buy gains 1, the sells lose 12/7, which is rounded to 2, and nothing. Of a bundle
-- that counts the call with strike 5 once below 0, 2/7 lose 12/7 too, and gain them on the other
-- side, where 1 is left
pub record PayoutsByHand : Type 0 where
  pub bought : gain_of Buy (whole (pos 1)) (one (negsuc 9 ∷ pos 1 ∷ [])) (11 ∷ []) ≡ pos 1
  pub sold : gain_of Sell (over (pos 2) 7) (one (negsuc 4 ∷ pos 1 ∷ [])) (11 ∷ []) ≡ negsuc 1
  pub sold_higher : gain_of Sell (over (pos 5) 7) (one (negsuc 11 ∷ pos 1 ∷ [])) (11 ∷ []) ≡ pos 0
  pub bought_short : gain_of Buy (over (pos 2) 7) (record { count = negsuc 0; option = negsuc 4 ∷ pos 1 ∷ [] } ∷ []) (11 ∷ []) ≡ negsuc 1
  pub sold_short : gain_of Sell (over (pos 2) 7) (record { count = negsuc 0; option = negsuc 4 ∷ pos 1 ∷ [] } ∷ []) (11 ∷ []) ≡ pos 1
