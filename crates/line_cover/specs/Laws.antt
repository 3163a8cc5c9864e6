-- What the check of a line shows, and what its states are.
use Rattle.std.specs.Prelude.{ℕ, ◌+◌, ◌≡◌, ◌≤◌, ◌↔◌, List, [], ◌∷◌, ◌++◌, length, map, true, false, Ok, ℤ}
use Rattle.std.specs.List.{zip, All, Contains}
use Rattle.exact_num.specs.Fraction.{Fraction, IsLowest}
use Rattle.exact_num.specs.CommonDenominator.{common_denominator, amount_over}
use Rattle.form.specs.declared.orders.Order.{Order}
use Rattle.form.specs.Vector.{IsState}
use Rattle.clearing_model.specs.Clearing.{SignedFill, HoldsAtEachState}
use Rattle.clearing_model.specs.Line.{IsLineCover}
use Rattle.clearing_model.specs.Certificate.{LineCloses, filled_over, signed_over}
use Rattle.line_cover.specs.Line.{breakpoints_of, legs_of_orders, line_holds}
use Rattle.line_cover.specs.Breakpoints.{first_state, last_state, line_states, Rise, HoldsAtState}

-- over one denominator of all these fractions: the net of the fills is at most the liability at
-- each settlement of one underlying and at the ray
abbrev pub IsEnoughOnLine : List Order → List Fraction → Fraction → Type 0
IsEnoughOnLine orders fills L =
    let D = common_denominator (L ∷ fills) in
    HoldsAtEachState 1 (filled_over D orders fills) (amount_over D L)

-- where the check holds, the line is covered
abbrev pub LinesThatHoldClose : Type 0
LinesThatHoldClose =
    (limit : ℕ) (orders : List Order) (fills : List Fraction) (L : Fraction)
    → length fills ≡ length orders → All IsLowest fills → IsLowest L
    → line_holds limit (zip orders fills) orders L ≡ Ok true
    → LineCloses orders fills L

-- where it fails, the line is not
abbrev pub LinesThatFailDoNotClose : Type 0
LinesThatFailDoNotClose =
    (limit : ℕ) (orders : List Order) (fills : List Fraction) (L : Fraction)
    → length fills ≡ length orders → All IsLowest fills → IsLowest L
    → line_holds limit (zip orders fills) orders L ≡ Ok false
    → LineCloses orders fills L → ⊥

-- the order of a fill
abbrev pub order_of : SignedFill → Order
order_of fill = fill.0

-- a line cover is one that holds at each of the line's states
abbrev pub LineCoversHoldAtStates : Type 0
LineCoversHoldAtStates =
    (fills : List SignedFill) (L : ℤ)
    → All (HoldsAtState fills L) (line_states (map order_of fills)) ↔ IsLineCover fills L

-- the same of fractions
abbrev pub LinesCloseAtStates : Type 0
LinesCloseAtStates =
    (orders : List Order) (fills : List Fraction) (L : Fraction) → length fills ≡ length orders
    → (let D = common_denominator (L ∷ fills) in
    All (HoldsAtState (signed_over D orders fills) (amount_over D L)) (line_states orders) ↔ LineCloses orders fills L)

-- each of them is a state of one underlying
abbrev pub LineStatesAreStates : Type 0
LineStatesAreStates = (orders : List Order) → All (IsState 1) (line_states orders)

-- they are the price 0, the breakpoint of each leg that has one, and the slope
abbrev pub LineStatesAreBreakpoints : Type 0
LineStatesAreBreakpoints =
    (orders : List Order) (z : List ℕ)
    → Contains (line_states orders) z ↔ Contains (first_state ∷ (breakpoints_of orders ++ (last_state ∷ []))) z

-- so there are at most two more than legs
abbrev pub LineStatesAreFew : Type 0
LineStatesAreFew = (orders : List Order) → length (line_states orders) ≤ length (legs_of_orders orders) + 2

-- and they stand in rising price
abbrev pub LineStatesRise : Type 0
LineStatesRise = (orders : List Order) → Rise (line_states orders)
