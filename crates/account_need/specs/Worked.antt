-- Needs, worked by hand.
use Rattle.std.specs.Prelude.{ℕ, ◌≡◌, List, [], ◌∷◌, pos, negsuc}
use Rattle.portfolio_margin.specs.Worked.{option, position_of}
use Rattle.exact_num.specs.Fraction.{over, whole}
use Rattle.form.specs.declared.bundles.Bundle.{Bundle}
use Rattle.form.specs.declared.orders.Order.{Order}
use Rattle.form.specs.declared.orders.Side.{Side}
use Rattle.form.specs.declared.orders.Side.TheVariants.{Buy, Sell}
use Rattle.form.specs.FormOf.{form_of}
use Rattle.form.specs.BundleOf.{bundle_made}
use Rattle.settlement.specs.declared.position.Position.{Position}
use Rattle.account_need.specs.Rounded.{Summed, summed, sums_of}
use Rattle.account_need.specs.Line.{line_need}

abbrev pub live : Side → Bundle → ℕ → Order
live side bundle price = record { id = 1; account = 2; side = side; bundle = bundle; price = price; quantity = 1 }

abbrev pub on_one : List Position → List Order → Summed
on_one positions orders = summed (record { underlyings = 1; positions = positions; live = orders })

abbrev pub put_10 : Bundle
put_10 = option (pos 10 ∷ negsuc 0 ∷ [])

abbrev pub call_10 : Bundle
call_10 = option (negsuc 9 ∷ pos 1 ∷ [])

-- a call with strike 10, less one with strike 20
abbrev pub spread : Bundle
spread = bundle_made (record { count = pos 1; form = form_of (negsuc 9 ∷ pos 1 ∷ []) } ∷ record { count = negsuc 0; form = form_of (negsuc 19 ∷ pos 1 ∷ []) } ∷ [])

-- three calls of which one is the put's other side: of the put with strike 10, counted 1 and -3,
-- two thirds of -2 are owed, which is one rounding
abbrev pub twice : Bundle
twice = bundle_made (record { count = pos 1; form = form_of (pos 10 ∷ negsuc 0 ∷ []) } ∷ record { count = negsuc 2; form = form_of (pos 10 ∷ negsuc 0 ∷ []) } ∷ [])

pub record NeedsByHand : Type 0 where
  pub nothing : line_need (on_one [] []) ≡ 0
  -- a put with strike 10 is offered at 7: 3 may be lost, and 2 by rounding
  pub put_offered : line_need (on_one [] (live Sell put_10 7 ∷ [])) ≡ 5
  -- it is sold: 10 may be lost, and 1 by rounding
  pub put_sold : line_need (on_one (position_of Sell put_10 (whole (pos 1)) ∷ []) []) ≡ 11
  -- a call is offered at 5: at the highest price 999,999,990 less 5 may be lost
  pub call_offered : line_need (on_one [] (live Sell call_10 5 ∷ [])) ≡ 999999987
  -- with one that is bought, in one order at 4, it is 10 less 4
  pub spread_offered : line_need (on_one [] (live Sell spread 4 ∷ [])) ≡ 8
  -- what is held is offered at 6: nothing may be lost
  pub held_offered : line_need (on_one (position_of Buy call_10 (whole (pos 1)) ∷ []) (live Sell call_10 6 ∷ [])) ≡ 3
  -- a bid of 7 reserves 7
  pub bid : line_need (on_one [] (live Buy call_10 7 ∷ [])) ≡ 9

-- a third of a put, and the same bought: 1431655766 and -1431655765 of 2^32
pub record SumsByHand : Type 0 where
  pub sold : sums_of (position_of Sell put_10 (over (pos 1) 3) ∷ []) ≡ record { option = pos 10 ∷ negsuc 0 ∷ []; sum = pos 1431655766 } ∷ []
  pub bought : sums_of (position_of Buy put_10 (over (pos 1) 3) ∷ []) ≡ record { option = pos 10 ∷ negsuc 0 ∷ []; sum = negsuc 1431655764 } ∷ []
  -- 1/3 of what counts 1 and -3: once rounded
  pub once : sums_of (position_of Sell twice (over (pos 1) 3) ∷ []) ≡ record { option = pos 10 ∷ negsuc 0 ∷ []; sum = negsuc 2863311529 } ∷ []
  -- what is bought and sold is left out
  pub none : sums_of (position_of Sell put_10 (whole (pos 1)) ∷ position_of Buy put_10 (whole (pos 1)) ∷ []) ≡ []
