-- Needs of accounts, and what they may do, worked by hand.
use Rattle.std.specs.Prelude.{ℕ, ◌≡◌, true, false, List, [], ◌∷◌, pos, negsuc, Ok, Err}
use Rattle.portfolio_margin.specs.Worked.{option, position_of}
use Rattle.exact_num.specs.Fraction.{whole}
use Rattle.form.specs.declared.orders.Order.{Order}
use Rattle.form.specs.declared.orders.Side.TheVariants.{Buy, Sell}
use Rattle.form.specs.declared.bundles.Bundle.{Bundle}
use Rattle.settlement.specs.declared.position.Position.{Position}
use Rattle.account_need.specs.declared.need.NoNeed.TheVariants.{Unbounded}
use Rattle.account_need.specs.Account.{Numbered, may_be_secured, may_place, may_withdraw, need_of}
use Rattle.account_need.specs.Exposure.{Portfolio}
use Rattle.account_need.specs.Worked.{call_10, live, put_10, spread}

abbrev pub on : ℕ → List Position → List Order → Portfolio
on n positions orders = record { underlyings = n; positions = positions; live = orders }

abbrev pub in_first : List Position → List Order → List Numbered
in_first positions orders = (1, on 1 positions orders) ∷ []

-- ---- one underlying
pub record RulesByHand : Type 0 where
  pub nothing : may_be_secured [] (pos 0) ≡ true
  -- a put with strike 10 is offered at 7 with a balance of 4, and of 5
  pub one_short : may_place [] (pos 4) 1 1 (live Sell put_10 7) ≡ false
  pub enough : may_place [] (pos 5) 1 1 (live Sell put_10 7) ≡ true
  -- it is sold, and 12 are there: 2 are too many to take out
  pub two_out : may_withdraw (in_first (position_of Sell put_10 (whole (pos 1)) ∷ []) []) (pos 12) 2 ≡ false
  pub one_out : may_withdraw (in_first (position_of Sell put_10 (whole (pos 1)) ∷ []) []) (pos 12) 1 ≡ true
  -- a call is offered at 5; with one that is bought, in one order at 4
  pub call_offered : may_place [] (pos 1000) 1 1 (live Sell call_10 5) ≡ false
  pub spread_offered : may_place [] (pos 1000) 1 1 (live Sell spread 4) ≡ true
  -- the call that is held is offered at 6
  pub closing : may_place (in_first (position_of Buy call_10 (whole (pos 1)) ∷ []) []) (pos 3) 1 1 (live Sell call_10 6) ≡ true
  pub closing_short : may_place (in_first (position_of Buy call_10 (whole (pos 1)) ∷ []) []) (pos 2) 1 1 (live Sell call_10 6) ≡ false
  -- two markets ask together: 11 for a put that is sold, and 5 for one that is offered
  pub together : may_place (in_first (position_of Sell put_10 (whole (pos 1)) ∷ []) []) (pos 16) 2 1 (live Sell put_10 7) ≡ true
  pub together_short : may_place (in_first (position_of Sell put_10 (whole (pos 1)) ∷ []) []) (pos 15) 2 1 (live Sell put_10 7) ≡ false

-- ---- two underlyings
-- calls with strike 10 on each, and one with strike 20 on their sum
abbrev pub call_first : Bundle
call_first = option (negsuc 9 ∷ pos 1 ∷ pos 0 ∷ [])

abbrev pub call_second : Bundle
call_second = option (negsuc 9 ∷ pos 0 ∷ pos 1 ∷ [])

abbrev pub call_of_sum : Bundle
call_of_sum = option (negsuc 19 ∷ pos 1 ∷ pos 1 ∷ [])

abbrev pub two_of : Order → Order
two_of order = record order { quantity = 2 }

pub record BasketsByHand : Type 0 where
  -- the two calls pay at least what is offered
  pub basket_held : need_of (on 2 (position_of Buy call_first (whole (pos 1)) ∷ position_of Buy call_second (whole (pos 1)) ∷ []) (live Sell call_of_sum 3 ∷ []) ∷ []) ≡ Ok 4
  -- without them the calls with strike 10^9 bound it, and for two they do not
  pub basket_alone : need_of (on 2 [] (live Sell call_of_sum 3 ∷ []) ∷ []) ≡ Ok 1999999982
  pub two_baskets : need_of (on 2 [] (two_of (live Sell call_of_sum 3) ∷ []) ∷ []) ≡ Err Unbounded
