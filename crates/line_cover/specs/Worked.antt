-- Worked batches, their states and whether their lines hold. The definitions compute them.
use Rattle.std.specs.Prelude.{◌≡◌, ℕ, List, [], ◌∷◌, true, false, map, ℤ, pos, negsuc, Ok}
use Rattle.exact_num.specs.Fraction.{Fraction, whole}
use Rattle.exact_num.specs.Limit.{limit}
use Rattle.form.specs.declared.legs.Leg.{Leg}
use Rattle.form.specs.declared.bundles.Bundle.{Bundle}
use Rattle.form.specs.declared.orders.Side.{Side}
use Rattle.form.specs.declared.orders.Side.TheVariants.{Buy, Sell}
use Rattle.form.specs.declared.orders.Order.{Order}
use Rattle.form.specs.Vector.{call_of, put_of}
use Rattle.form.specs.FormOf.{form_of}
use Rattle.form.specs.BundleOf.{bundle_one, bundle_made}
use Rattle.line_cover.specs.Breakpoints.{line_states, last_state}
use Rattle.line_cover.specs.Line.{line_holds}
use Rattle.line_cover.specs.Net.{net_of}

-- an order for one of this bundle at this price
abbrev pub order_for : ℕ → Side → Bundle → ℕ → Order
order_for id side bundle price = record { id = id; account = id; side = side; bundle = bundle; price = price; quantity = 1 }

-- the call with this strike on this weight, and the put
abbrev pub call_on : ℤ → ℤ → Bundle
call_on strike weight = bundle_one (form_of (call_of strike (weight ∷ [])))

abbrev pub put_on : ℤ → ℤ → Bundle
put_on strike weight = bundle_one (form_of (put_of strike (weight ∷ [])))

-- buy call 10, sell call 5, sell call 12
abbrev pub three_calls : List Order
three_calls =
    order_for 1 Buy (call_on (pos 10) (pos 1)) 1
    ∷ order_for 2 Sell (call_on (pos 5) (pos 1)) 1
    ∷ order_for 3 Sell (call_on (pos 12) (pos 1)) 1
    ∷ []

-- a call and a put that bend at 5 / 2, a call that bends at 7 / 3, and two that bend at no price
-- above 0
abbrev pub shared_break : List Order
shared_break =
    order_for 1 Buy (call_on (pos 10) (pos 4)) 1
    ∷ order_for 2 Sell (put_on (pos 5) (pos 2)) 1
    ∷ order_for 3 Sell (call_on (negsuc 2) (pos 1)) 1
    ∷ order_for 4 Buy (call_on (pos 7) (pos 3)) 1
    ∷ order_for 5 Buy (call_on (pos 0) (pos 1)) 1
    ∷ []

-- a leg of this many calls with this strike
abbrev pub calls : ℤ → ℤ → Leg
calls count strike = record { count = count; form = form_of (call_of strike (pos 1 ∷ [])) }

-- buy a bundle of one call 10 and so many calls 12 at 2, sell call 10 at 6, buy call 12 at 5
abbrev pub covered_spread : ℤ → List Order
covered_spread count =
    order_for 1 Buy (bundle_made (calls (pos 1) (pos 10) ∷ calls count (pos 12) ∷ [])) 2
    ∷ order_for 2 Sell (call_on (pos 10) (pos 1)) 6
    ∷ order_for 3 Buy (call_on (pos 12) (pos 1)) 5
    ∷ []

-- each order filled whole
abbrev pub filled_whole : List Order → List (Order × Fraction)
filled_whole orders = map (λ (order : Order). (order, whole (pos 1))) orders

pub record LinesByHand : Type 0 where
  pub three_calls_bend : line_states three_calls ≡ (1 ∷ 0 ∷ []) ∷ (1 ∷ 5 ∷ []) ∷ (1 ∷ 10 ∷ []) ∷ (1 ∷ 12 ∷ []) ∷ (0 ∷ 1 ∷ []) ∷ []
  pub shared_break_bends : line_states shared_break ≡ (1 ∷ 0 ∷ []) ∷ (3 ∷ 7 ∷ []) ∷ (2 ∷ 5 ∷ []) ∷ (0 ∷ 1 ∷ []) ∷ []
  -- the spread bends at 10 and at 12, and owes nothing
  pub spread_bends : line_states (covered_spread (negsuc 0)) ≡ (1 ∷ 0 ∷ []) ∷ (1 ∷ 10 ∷ []) ∷ (1 ∷ 12 ∷ []) ∷ (0 ∷ 1 ∷ []) ∷ []
  pub spread_holds :
      let orders = covered_spread (negsuc 0) in
      line_holds limit (filled_whole orders) orders (whole (pos 0)) ≡ Ok true
  -- with both legs bought it owes 2 in the slope
  pub both_bought_owe_two : net_of limit (filled_whole (covered_spread (pos 1))) last_state ≡ Ok (whole (pos 2))
  pub both_bought_fail :
      let orders = covered_spread (pos 1) in
      line_holds limit (filled_whole orders) orders (whole (pos 0)) ≡ Ok false
