-- The check of a line, each step with a limit.
use Rattle.std.specs.Prelude.{ℕ, ◌/◌, List, [], ◌∷◌, nat_abs, nat_eq, int_lt, Bool, true, not, ◌&&◌, ◌||◌, if◌then◌else◌, ℤ, pos, Option, Some, None, Result, Ok, map, zip}
use Rattle.std.specs.List.{filter_map, flat_map}
use Rattle.arithmetic.specs.Gcd.{gcd}
use Rattle.exact_num.specs.declared.misfit.Wide.{Wide}
use Rattle.exact_num.specs.Fraction.{Fraction}
use Rattle.exact_num.specs.Fits.{after}
use Rattle.exact_num.specs.Steps.{and_then, all_of}
use Rattle.exact_num.specs.Tests.{is_above_zero}
use Rattle.frac.specs.Range.{limit as largest}
use Rattle.frac.specs.Value.{fraction_of}
use Rattle.frac.specs.declared.frac128.Frac128.{Frac128}
use Rattle.form.specs.declared.orders.Order.{Order}
use Rattle.form.specs.Vector.{strike_entry}
use Rattle.clearing_model.specs.Line.{weight_entry}
use Rattle.form.specs.Payoff.{BundleLeg, bundle_of}
use Rattle.line_cover.specs.Net.{excess}

-- the price K / w in lowest terms, as the state (w, K)
abbrev pub lowest_state : ℕ → ℕ → List ℕ
lowest_state t s = (t / gcd t s) ∷ (s / gcd t s) ∷ []

-- whether the strike's entry and the weight have opposite signs: then the payoff bends at a price
-- above 0
abbrev pub bends : ℤ → ℤ → Bool
bends strike weight =
    (int_lt strike (pos 0) && int_lt (pos 0) weight) || (int_lt (pos 0) strike && int_lt weight (pos 0))

-- that price, where there is one
abbrev pub breakpoint_of : List ℤ → Option (List ℕ)
breakpoint_of v =
    if bends (strike_entry v) (weight_entry v)
    then Some (lowest_state (nat_abs (weight_entry v)) (nat_abs (strike_entry v)))
    else None

-- whether an option bends, and its entries have the sizes of those of another: then the other bends
-- there or nowhere
abbrev pub bends_alike : List ℤ → List ℤ → Bool
bends_alike v other =
    bends (strike_entry v) (weight_entry v)
    && nat_eq (nat_abs (strike_entry v)) (nat_abs (strike_entry other))
    && nat_eq (nat_abs (weight_entry v)) (nat_abs (weight_entry other))

abbrev pub breakpoint_of_leg : BundleLeg → Option (List ℕ)
breakpoint_of_leg leg = breakpoint_of leg.option

-- the legs of the orders, order by order and leg by leg
abbrev pub legs_of_orders : List Order → List BundleLeg
legs_of_orders orders = flat_map bundle_of orders

-- the breakpoint of each leg that has one, in this order
abbrev pub breakpoints_of : List Order → List (List ℕ)
breakpoints_of orders = filter_map breakpoint_of_leg (legs_of_orders orders)

-- whether the net is at most the liability times t at a state
abbrev pub holds_at : ℕ → List (Order × Fraction) → Fraction → List ℕ → Result Bool Wide
holds_at limit fills L z = after (excess limit fills L z) (λ e. Ok (not (is_above_zero e)))

-- that test for orders with these fills
abbrev pub holds_for : List Order → List Frac128 → Frac128 → List ℕ → Result Bool Wide
holds_for orders fills liability = holds_at largest (zip orders (map fraction_of fills)) (fraction_of liability)

-- whether it is where an option bends, if it does
abbrev pub holds_at_break : ℕ → List (Order × Fraction) → Fraction → Option (List ℕ) → Result Bool Wide
holds_at_break limit fills L None = Ok true
holds_at_break limit fills L (Some z) = holds_at limit fills L z

-- whether it is at the price 0, at the breakpoint of each leg, and in the slope beyond the last
abbrev pub line_holds : ℕ → List (Order × Fraction) → List Order → Fraction → Result Bool Wide
line_holds limit fills orders L =
    and_then (holds_at limit fills L (1 ∷ 0 ∷ []))
    (and_then (all_of (holds_at limit fills L) (breakpoints_of orders)) (holds_at limit fills L (0 ∷ 1 ∷ [])))
