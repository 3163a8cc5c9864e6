-- Worked batches: their master programs, and what is read off the optimum of each.
use Rattle.std.specs.Prelude.{◌≡◌, ℕ, List, [], ◌∷◌, ℤ, pos, negsuc, Result, Ok}
use Rattle.exact_num.specs.Limit.{limit as largest}
use Rattle.exact_num.specs.declared.misfit.Wide.{Wide}
use Rattle.exact_num.specs.declared.misfit.Operator.TheVariants.{Add}
use Rattle.exact_num.specs.Fraction.{Fraction, whole, over}
use Rattle.exact_num.specs.Fits.{misfit}
use Rattle.simplex_run.specs.Program.{LinearProgram}
use Rattle.simplex_run.specs.Ending.{done, Ending, wide_at, no_unit_left}
use Rattle.simplex_run.specs.Run.{optimum}
use Rattle.simplex_run.specs.Worked.{minus, wholes, at_most, program_of, worked, empty_batch, one_option_matched, equal_prices_stay, lower_strike_covers, butterfly_by_two_sells, cover_too_dear, surplus_too_wide}
use Rattle.form.specs.declared.orders.Side.{Side}
use Rattle.form.specs.declared.orders.Side.TheVariants.{Buy, Sell}
use Rattle.form.specs.declared.legs.Leg.{Leg}
use Rattle.form.specs.declared.orders.Order.{Order}
use Rattle.form.specs.FormOf.{form_of}
use Rattle.form.specs.BundleOf.{bundle_one, bundle_made}
use Rattle.master_program.specs.Master.{zero_prices, master}
use Rattle.master_program.specs.Reading.{Reading, reading_of}
use Rattle.master_program.specs.Solve.{master_solve}

-- an order for one option
abbrev pub order_for : Side → List ℤ → ℕ → ℕ → Order
order_for side option price quantity =
    record { id = 1; account = 1; side = side; bundle = bundle_one (form_of option); price = price; quantity = quantity }

-- an order for one call on one underlying, with a strike above 0
abbrev pub call_order : Side → ℕ → ℕ → Order
call_order side strike price = order_for side (minus strike ∷ pos 1 ∷ []) price 1

-- a call on one underlying that counts so often in a bundle
abbrev pub call_leg : ℤ → ℕ → Leg
call_leg count strike = record { count = count; form = form_of (minus strike ∷ pos 1 ∷ []) }

-- an order for a bundle of legs
abbrev pub bundle_order : Side → List Leg → ℕ → Order
bundle_order side legs price = record { id = 1; account = 1; side = side; bundle = bundle_made legs; price = price; quantity = 1 }

-- the price s, and the slope beyond the last price
abbrev pub at_price : ℕ → List ℕ
at_price s = 1 ∷ s ∷ []

abbrev pub slope : List ℕ
slope = 0 ∷ 1 ∷ []

-- the program and the reading with 127 bits
abbrev pub worked_master : List Order → List (List ℕ) → Result LinearProgram Wide
worked_master orders states = master largest largest orders states

abbrev pub worked_reading : List Order → List (List ℕ) → (x y reduced : List Fraction) → Fraction → Result Reading Wide
worked_reading orders states x y reduced value = reading_of largest (zero_prices 1) orders states x y reduced value

-- ---- no order
pub record EmptyBatch : Type 0 where
  pub program : worked_master [] (slope ∷ []) ≡ Ok empty_batch
  pub reading : worked_reading [] (slope ∷ []) (wholes (pos 0 ∷ [])) (wholes (pos 0 ∷ [])) (wholes (pos 1 ∷ [])) (whole (pos 0))
      ≡ Ok (record { fills = []; liability = whole (pos 0); surplus = whole (pos 0); measure = (at_price 0, whole (pos 1)) ∷ [] })

-- ---- buy call 10 at 7, sell call 10 at 5
abbrev pub one_option : List Order
one_option = call_order Buy 10 7 ∷ call_order Sell 10 5 ∷ []

abbrev pub one_option_states : List (List ℕ)
one_option_states = at_price 10 ∷ slope ∷ []

pub record OneOptionMatched : Type 0 where
  pub program : worked_master one_option one_option_states ≡ Ok one_option_matched
  pub reading : worked_reading one_option one_option_states (wholes (pos 1 ∷ pos 1 ∷ pos 0 ∷ [])) (wholes (pos 2 ∷ pos 0 ∷ pos 0 ∷ pos 5 ∷ [])) (wholes (pos 0 ∷ pos 0 ∷ pos 1 ∷ [])) (whole (pos 2))
      ≡ Ok (record {
        fills = wholes (pos 1 ∷ pos 1 ∷ []);
        liability = whole (pos 0);
        surplus = whole (pos 2);
        measure = (at_price 0, whole (pos 1)) ∷ (slope, whole (pos 5)) ∷ [];
      })

-- ---- buy call 10 at 5, sell call 10 at 5
abbrev pub equal_prices : List Order
equal_prices = call_order Buy 10 5 ∷ call_order Sell 10 5 ∷ []

abbrev pub EqualPricesStay : Type 0
EqualPricesStay = worked_master equal_prices one_option_states ≡ Ok equal_prices_stay

-- ---- buy call 10 at 6, sell call 5 at 5
abbrev pub lower_strike : List Order
lower_strike = call_order Buy 10 6 ∷ call_order Sell 5 5 ∷ []

abbrev pub lower_strike_states : List (List ℕ)
lower_strike_states = at_price 5 ∷ at_price 10 ∷ slope ∷ []

abbrev pub LowerStrikeCovers : Type 0
LowerStrikeCovers = worked_master lower_strike lower_strike_states ≡ Ok lower_strike_covers

-- ---- buy call 10 at 6, sell call 5 at 8, sell call 12 at 4
abbrev pub butterfly : List Order
butterfly = call_order Buy 10 6 ∷ call_order Sell 5 8 ∷ call_order Sell 12 4 ∷ []

abbrev pub butterfly_states : List (List ℕ)
butterfly_states = at_price 5 ∷ at_price 10 ∷ at_price 12 ∷ slope ∷ []

pub record ButterflyByTwoSells : Type 0 where
  pub program : worked_master butterfly butterfly_states ≡ Ok butterfly_by_two_sells
  pub reading : worked_reading butterfly butterfly_states (whole (pos 1) ∷ over (pos 2) 7 ∷ over (pos 5) 7 ∷ whole (pos 0) ∷ [])
      (over (pos 6) 7 ∷ whole (pos 0) ∷ whole (pos 0) ∷ whole (pos 0) ∷ whole (pos 0) ∷ over (pos 4) 7 ∷ whole (pos 4) ∷ [])
      (whole (pos 0) ∷ whole (pos 0) ∷ whole (pos 0) ∷ over (pos 3) 7 ∷ []) (over (pos 6) 7)
      ≡ Ok (record {
        fills = whole (pos 1) ∷ over (pos 2) 7 ∷ over (pos 5) 7 ∷ [];
        liability = whole (pos 0);
        surplus = over (pos 6) 7;
        measure = (at_price 0, over (pos 3) 7) ∷ (at_price 12, over (pos 4) 7) ∷ (slope, whole (pos 4)) ∷ [];
      })

-- ---- buy call 10 at 6, sell call 12 at 4
abbrev pub dear_cover : List Order
dear_cover = call_order Buy 10 6 ∷ call_order Sell 12 4 ∷ []

abbrev pub at_both_strikes : List (List ℕ)
at_both_strikes = at_price 10 ∷ at_price 12 ∷ slope ∷ []

pub record CoverTooDear : Type 0 where
  pub program : worked_master dear_cover at_both_strikes ≡ Ok cover_too_dear
  pub reading : worked_reading dear_cover at_both_strikes (wholes (pos 0 ∷ pos 0 ∷ pos 0 ∷ [])) (wholes (pos 0 ∷ pos 0 ∷ pos 0 ∷ pos 1 ∷ pos 4 ∷ [])) (wholes (pos 0 ∷ pos 0 ∷ pos 0 ∷ [])) (whole (pos 0))
      ≡ Ok (record {
        fills = wholes (pos 0 ∷ pos 0 ∷ []);
        liability = whole (pos 0);
        surplus = whole (pos 0);
        measure = (at_price 12, whole (pos 1)) ∷ (slope, whole (pos 4)) ∷ [];
      })

-- ---- buy put 10 at 12: its greatest payoff, 10, stands in the cost, and is the liability
abbrev pub put_bought : List Order
put_bought = order_for Buy (pos 10 ∷ minus 1 ∷ []) 12 1 ∷ []

abbrev pub put_bought_states : List (List ℕ)
put_bought_states = at_price 10 ∷ slope ∷ []

abbrev pub put_above_its_strike : LinearProgram
put_above_its_strike =
    program_of (pos 2 ∷ minus 1 ∷ [])
    (at_most (pos 1 ∷ pos 0 ∷ []) (pos 1)
    ∷ at_most (minus 10 ∷ minus 1 ∷ []) (pos 0)
    ∷ at_most (pos 0 ∷ pos 0 ∷ []) (pos 0)
    ∷ [])

pub record PutAboveItsStrike : Type 0 where
  pub program : worked_master put_bought put_bought_states ≡ Ok put_above_its_strike
  pub optimum : worked put_above_its_strike
      ≡ done (optimum (wholes (pos 1 ∷ pos 0 ∷ [])) (wholes (pos 2 ∷ pos 0 ∷ pos 0 ∷ [])) (wholes (pos 0 ∷ pos 1 ∷ [])) (whole (pos 2))) 1
  pub reading : worked_reading put_bought put_bought_states (wholes (pos 1 ∷ pos 0 ∷ [])) (wholes (pos 2 ∷ pos 0 ∷ pos 0 ∷ [])) (wholes (pos 0 ∷ pos 1 ∷ [])) (whole (pos 2))
      ≡ Ok (record {
        fills = wholes (pos 1 ∷ []);
        liability = whole (pos 10);
        surplus = whole (pos 2);
        measure = (at_price 0, whole (pos 1)) ∷ [];
      })

-- ---- a spread that two options cover: buy call 10 less call 12 at 2, sell call 10 at 6, buy call 12 at 5
abbrev pub spread : List Order
spread =
    bundle_order Buy (call_leg (pos 1) 10 ∷ call_leg (negsuc 0) 12 ∷ []) 2
    ∷ call_order Sell 10 6
    ∷ call_order Buy 12 5
    ∷ []

-- beyond both strikes the spread pays 2: its column is that of call 10 less that of call 12
abbrev pub SpreadIsCovered : Type 0
SpreadIsCovered =
    worked_master spread at_both_strikes
    ≡ Ok (program_of (pos 2 ∷ minus 6 ∷ pos 5 ∷ minus 1 ∷ [])
    (at_most (pos 1 ∷ pos 0 ∷ pos 0 ∷ pos 0 ∷ []) (pos 1)
    ∷ at_most (pos 0 ∷ pos 1 ∷ pos 0 ∷ pos 0 ∷ []) (pos 1)
    ∷ at_most (pos 0 ∷ pos 0 ∷ pos 1 ∷ pos 0 ∷ []) (pos 1)
    ∷ at_most (pos 0 ∷ pos 0 ∷ pos 0 ∷ minus 1 ∷ []) (pos 0)
    ∷ at_most (pos 2 ∷ minus 2 ∷ pos 0 ∷ minus 1 ∷ []) (pos 0)
    ∷ at_most (pos 0 ∷ minus 1 ∷ pos 1 ∷ pos 0 ∷ []) (pos 0)
    ∷ []))

-- ---- two underlyings: buy call 8 on both at 8, sell call 4 on the first at 3, sell call 6 on the second at 2; the states are
-- the two axes and the prices 4 and 6, at which the slack is needed
abbrev pub basket : List Order
basket =
    order_for Buy (minus 8 ∷ pos 1 ∷ pos 1 ∷ []) 8 1
    ∷ order_for Sell (minus 4 ∷ pos 1 ∷ pos 0 ∷ []) 3 1
    ∷ order_for Sell (minus 6 ∷ pos 0 ∷ pos 1 ∷ []) 2 1
    ∷ []

abbrev pub basket_states : List (List ℕ)
basket_states = (0 ∷ 1 ∷ 0 ∷ []) ∷ (0 ∷ 0 ∷ 1 ∷ []) ∷ (1 ∷ 4 ∷ 6 ∷ []) ∷ []

abbrev pub second_round : LinearProgram
second_round =
    program_of (pos 8 ∷ minus 3 ∷ minus 2 ∷ minus 1 ∷ [])
    (at_most (pos 1 ∷ pos 0 ∷ pos 0 ∷ pos 0 ∷ []) (pos 1)
    ∷ at_most (pos 0 ∷ pos 1 ∷ pos 0 ∷ pos 0 ∷ []) (pos 1)
    ∷ at_most (pos 0 ∷ pos 0 ∷ pos 1 ∷ pos 0 ∷ []) (pos 1)
    ∷ at_most (pos 1 ∷ minus 1 ∷ pos 0 ∷ pos 0 ∷ []) (pos 0)
    ∷ at_most (pos 1 ∷ pos 0 ∷ minus 1 ∷ pos 0 ∷ []) (pos 0)
    ∷ at_most (pos 2 ∷ pos 0 ∷ pos 0 ∷ minus 1 ∷ []) (pos 0)
    ∷ [])

abbrev pub second_round_solution : List Fraction
second_round_solution = wholes (pos 1 ∷ pos 1 ∷ pos 1 ∷ pos 2 ∷ [])

abbrev pub second_round_dual : List Fraction
second_round_dual = wholes (pos 1 ∷ pos 0 ∷ pos 0 ∷ pos 3 ∷ pos 2 ∷ pos 1 ∷ [])

abbrev pub second_round_reduced : List Fraction
second_round_reduced = wholes (pos 0 ∷ pos 0 ∷ pos 0 ∷ pos 0 ∷ [])

pub record SecondRound : Type 0 where
  pub program : worked_master basket basket_states ≡ Ok second_round
  pub optimum : worked second_round ≡ done (optimum second_round_solution second_round_dual second_round_reduced (whole (pos 1))) 4
  pub reading : reading_of largest (zero_prices 2) basket basket_states second_round_solution second_round_dual second_round_reduced (whole (pos 1))
      ≡ Ok (record {
        fills = wholes (pos 1 ∷ pos 1 ∷ pos 1 ∷ []);
        liability = whole (pos 2);
        surplus = whole (pos 1);
        measure = (0 ∷ 1 ∷ 0 ∷ [], whole (pos 3)) ∷ (0 ∷ 0 ∷ 1 ∷ [], whole (pos 2)) ∷ (1 ∷ 4 ∷ 6 ∷ [], whole (pos 1)) ∷ [];
      })

-- ---- prices, quantities and weights near their limits: buy calls 500001 and 899999999, sell call 0 on 1000 units, call
-- 1000000000 on 999 units and call 999999999
abbrev pub large_batch : List Order
large_batch =
    order_for Buy (minus 500001 ∷ pos 1 ∷ []) 400000000 999999
    ∷ order_for Buy (minus 899999999 ∷ pos 1 ∷ []) 200000 1
    ∷ order_for Sell (pos 0 ∷ pos 1000 ∷ []) 1501501501 1000000
    ∷ order_for Sell (minus 1000000000 ∷ pos 999 ∷ []) 1000000000 1000000
    ∷ order_for Sell (minus 999999999 ∷ pos 1 ∷ []) 0 1000000
    ∷ []

abbrev pub large_batch_states : List (List ℕ)
large_batch_states = at_price 500001 ∷ (999 ∷ 1000000000 ∷ []) ∷ at_price 899999999 ∷ at_price 999999999 ∷ slope ∷ []

abbrev pub SurplusTooWide : Type 0
SurplusTooWide = worked_master large_batch large_batch_states ≡ Ok surplus_too_wide

-- ---- whole solves on one underlying
abbrev pub worked_solve : ℕ → List Order → List (List ℕ) → Ending Reading
worked_solve left orders states = master_solve largest largest left 0 1 orders states

pub record WholeSolves : Type 0 where
  pub matched : worked_solve 100 one_option one_option_states
      ≡ done (record {
        fills = wholes (pos 1 ∷ pos 1 ∷ []);
        liability = whole (pos 0);
        surplus = whole (pos 2);
        measure = (at_price 0, whole (pos 1)) ∷ (slope, whole (pos 5)) ∷ [];
      }) 2
  pub one_unit_short : worked_solve 1 one_option one_option_states ≡ no_unit_left 1
  pub too_wide : worked_solve 20000 large_batch large_batch_states
      ≡ wide_at 6 (misfit Add (over (pos 398748100250250500749500501) 1000000000000) (over (pos 99599999800200000) 997999999001))
