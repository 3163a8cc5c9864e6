-- Worked batches and the end of the reference run on each, with numbers of 127 bits.
use Rattle.std.specs.Prelude.{◌≡◌, ℕ, List, [], ◌∷◌, pos}
use Rattle.exact_num.specs.Fraction.{whole, over}
use Rattle.exact_num.specs.Fits.{misfit}
use Rattle.exact_num.specs.declared.misfit.Operator.TheVariants.{Add}
use Rattle.frac.specs.Range.{limit}
use Rattle.simplex_run.specs.Worked.{wholes}
use Rattle.form.specs.declared.orders.Order.{Order}
use Rattle.master_program.specs.Worked.{at_price, slope, one_option, equal_prices, lower_strike, butterfly, dear_cover, spread, large_batch}
use Rattle.master_program.specs.Reading.{Reading}
use Rattle.constraint_generation.specs.Run.{line_run}
use Rattle.simplex_run.specs.Ending.{Ending, done, wide_at, no_unit_left}

-- the run with so many units
abbrev pub worked_run : ℕ → List Order → Ending Reading
worked_run units orders = line_run limit limit units 0 orders

-- buy call 10 at 7, sell call 10 at 5: both are filled, in two turns
abbrev pub OneOptionCleared : Type 0
OneOptionCleared =
    worked_run 2 one_option
    ≡ done (record {
      fills = wholes (pos 1 ∷ pos 1 ∷ []);
      liability = whole (pos 0);
      surplus = whole (pos 2);
      measure = (at_price 0, whole (pos 1)) ∷ (slope, whole (pos 5)) ∷ [];
    }) 2

-- with one unit alone the second turn is wanted
abbrev pub OneUnitIsTooFew : Type 0
OneUnitIsTooFew = worked_run 1 one_option ≡ no_unit_left 1

-- buy call 10 at 5, sell call 10 at 5: nothing is earned, so nothing is filled
abbrev pub EqualPricesAreLeft : Type 0
EqualPricesAreLeft =
    worked_run 100 equal_prices
    ≡ done (record {
      fills = wholes (pos 0 ∷ pos 0 ∷ []);
      liability = whole (pos 0);
      surplus = whole (pos 0);
      measure = (at_price 0, whole (pos 1)) ∷ (slope, whole (pos 5)) ∷ [];
    }) 1

-- no order: no turn
abbrev pub NoOrderCleared : Type 0
NoOrderCleared =
    worked_run 100 []
    ≡ done (record { fills = []; liability = whole (pos 0); surplus = whole (pos 0); measure = (at_price 0, whole (pos 1)) ∷ [] }) 0

-- buy call 10 at 6, sell call 5 at 5: the call of the lower strike covers the other
abbrev pub LowerStrikeCleared : Type 0
LowerStrikeCleared =
    worked_run 100 lower_strike
    ≡ done (record {
      fills = wholes (pos 1 ∷ pos 1 ∷ []);
      liability = whole (pos 0);
      surplus = whole (pos 1);
      measure = (at_price 0, whole (pos 1)) ∷ (slope, whole (pos 5)) ∷ [];
    }) 2

-- buy call 10 at 6, sell call 5 at 8, sell call 12 at 4: two sells cover the buy
abbrev pub ButterflyCleared : Type 0
ButterflyCleared =
    worked_run 100 butterfly
    ≡ done (record {
      fills = whole (pos 1) ∷ over (pos 2) 7 ∷ over (pos 5) 7 ∷ [];
      liability = whole (pos 0);
      surplus = over (pos 6) 7;
      measure = (at_price 0, over (pos 3) 7) ∷ (at_price 12, over (pos 4) 7) ∷ (slope, whole (pos 4)) ∷ [];
    }) 3

-- buy call 10 at 6, sell call 12 at 4: to cover the buy costs more than it earns
abbrev pub DearCoverIsLeft : Type 0
DearCoverIsLeft =
    worked_run 100 dear_cover
    ≡ done (record {
      fills = wholes (pos 0 ∷ pos 0 ∷ []);
      liability = whole (pos 0);
      surplus = whole (pos 0);
      measure = (at_price 12, whole (pos 1)) ∷ (slope, whole (pos 4)) ∷ [];
    }) 2

-- buy call 10 less call 12 at 2, sell call 10 at 6, buy call 12 at 5: two options cover the spread
abbrev pub SpreadCleared : Type 0
SpreadCleared =
    worked_run 100 spread
    ≡ done (record {
      fills = wholes (pos 1 ∷ pos 1 ∷ pos 1 ∷ []);
      liability = whole (pos 0);
      surplus = whole (pos 1);
      measure = (at_price 0, over (pos 1) 2) ∷ (at_price 12, over (pos 1) 2) ∷ (slope, whole (pos 5)) ∷ [];
    }) 3

-- prices, quantities and weights near their limits: the surplus does not fit, in the sixth turn
abbrev pub LargeBatchIsTooWide : Type 0
LargeBatchIsTooWide =
    worked_run 100 large_batch
    ≡ wide_at 6 (misfit Add (over (pos 398748100250250500749500501) 1000000000000) (over (pos 99599999800200000) 997999999001))
