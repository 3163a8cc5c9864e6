-- The run on one underlying: its states are small, and so are its numbers.
use Rattle.std.proofs.Common.{ℕ, ◌/◌, ◌≤◌, List, [], ◌∷◌, zip, Bool, true, false, not, ℤ, pos, Option, Some, None, IfSome, arith}
use Rattle.std.specs.Prelude.{Ok, if◌then◌else◌, nat_abs}
use Rattle.std.specs.List.{All, cons_option, filter_map, fold}
use Rattle.std.proofs.lemmas.List.Elements.{All-nil, All-cons, All-head, All-tail, All-append}
use Rattle.arithmetic.specs.Gcd.{gcd}
use Rattle.exact_num.specs.Fraction.{Fraction, whole}
use Rattle.exact_num.specs.Steps.{all_of, less_product}
use Rattle.exact_num.specs.Tests.{is_above_zero}
use Rattle.frac.specs.Range.{limit as largest}
use Rattle.form.specs.declared.orders.Order.{Order}
use Rattle.form.specs.Limits.{IsOrderWithin}
use Rattle.form.specs.Payoff.{BundleLeg, bundle_of}
use Rattle.form.specs.Vector.{scale_of, strike_entry}
use Rattle.form.specs.Steps.{add_for_side}
use Rattle.clearing_model.specs.Line.{weight_entry}
use Rattle.line_cover.specs.Breakpoints.{in_rising_price, insert, is_below, last_state, later_states}
use Rattle.line_cover.specs.Line.{bends, breakpoint_of, breakpoint_of_leg, breakpoints_of, holds_at, legs_of_orders, line_holds, lowest_state}
use Rattle.line_cover.specs.Net.{add_payoff, excess, net_of}
use Rattle.constraint_generation.specs.Run.{line_run, sums_hold}
use Rattle.master_program.specs.Solve.{master_solve}
use Rattle.simplex_run.specs.Ending.{done, where_fits}
use Rattle.run_values.specs.Values.{Ends, IsReadingOf, IsSmall, IsSmallState, IsValue}
use Rattle.run_values.proofs.Numbers.{Has, Nothing, after_has, all_has, answer_ends, fold_has, for_side_has, less_product_has, steps_end, then_has, whole_value, zero_value}
use Rattle.run_values.proofs.Payoffs.{HasListed, IsEntry, IsLegSmall, all_listed, bundle_has, legs_small, scale_small, quotient_small}
use Rattle.run_values.proofs.Readings.{IsFillOf, fills_are, solve_has, sums_have}

two_small : (t s : ℕ) → t ≤ largest → s ≤ largest → IsSmallState (t ∷ s ∷ [])
two_small t s first second = All-cons IsSmall t (s ∷ []) first (All-cons IsSmall s [] second (All-nil IsSmall))

-- ---- breakpoints
lowest_small : (t s : ℕ) → t ≤ largest → s ≤ largest → IsSmallState (lowest_state t s)
lowest_small t s first second = two_small (t / gcd t s) (s / gcd t s) (quotient_small t (gcd t s) first) (quotient_small s (gcd t s) second)

strike_is : (v : List ℤ) → All IsEntry v → nat_abs (strike_entry v) ≤ largest
strike_is [] entries = omega arith
strike_is (a ∷ v) entries = let low = All-head IsEntry a v entries in omega (arith, low)

weight_is : (v : List ℤ) → All IsEntry v → nat_abs (weight_entry v) ≤ largest
weight_is [] entries = omega arith
weight_is (a ∷ []) entries = omega arith
weight_is (a ∷ b ∷ v) entries = let low = All-head IsEntry b v (All-tail IsEntry a (b ∷ v) entries) in omega (arith, low)

break_small : (v : List ℤ) → All IsEntry v → IfSome (breakpoint_of v) IsSmallState
break_small v entries = by (bends (strike_entry v) (weight_entry v))
  where
    by : (b : Bool) → IfSome (if b then Some (lowest_state (nat_abs (weight_entry v)) (nat_abs (strike_entry v))) else None) IsSmallState
    by true = lowest_small (nat_abs (weight_entry v)) (nat_abs (strike_entry v)) (weight_is v entries) (strike_is v entries)
    by false = tt

of_legs : (legs : List BundleLeg) → All IsLegSmall legs → All IsSmallState (filter_map breakpoint_of_leg legs)
of_legs [] small = All-nil IsSmallState
of_legs (leg ∷ legs) small = by (breakpoint_of leg.option) (break_small leg.option (All-head IsLegSmall leg legs small).entries) (of_legs legs (All-tail IsLegSmall leg legs small))
  where
    by : (o : Option (List ℕ)) → IfSome o IsSmallState → All IsSmallState (filter_map breakpoint_of_leg legs) → All IsSmallState (cons_option o (filter_map breakpoint_of_leg legs))
    by None one more = more
    by (Some z) one more = All-cons IsSmallState z (filter_map breakpoint_of_leg legs) one more

legs_of : (orders : List Order) → All IsOrderWithin orders → All IsLegSmall (legs_of_orders orders)
legs_of [] within = All-nil IsLegSmall
legs_of (order ∷ orders) within =
    All-append IsLegSmall (bundle_of order) (legs_of_orders orders) (legs_small order (All-head IsOrderWithin order orders within).options) (legs_of orders (All-tail IsOrderWithin order orders within))

breaks_small : (orders : List Order) → All IsOrderWithin orders → All IsSmallState (breakpoints_of orders)
breaks_small orders within = of_legs (legs_of_orders orders) (legs_of orders within)

insert_small : (ys : List (List ℕ)) (z : List ℕ) → All IsSmallState ys → IsSmallState z → All IsSmallState (insert ys z)
unfolding insert
insert_small [] z all one = All-cons IsSmallState z [] one (All-nil IsSmallState)
insert_small (y ∷ ys) z all one = by (is_below z y) (is_below y z) (insert_small ys z (All-tail IsSmallState y ys all) one)
  where
    by : (a b : Bool) → All IsSmallState (insert ys z) → All IsSmallState (if a then z ∷ y ∷ ys else if b then y ∷ insert ys z else y ∷ ys)
    by true b later = All-cons IsSmallState z (y ∷ ys) one all
    by false true later = All-cons IsSmallState y (insert ys z) (All-head IsSmallState y ys all) later
    by false false later = all

folded_small : (ys zs : List (List ℕ)) → All IsSmallState ys → All IsSmallState zs → All IsSmallState (fold insert ys zs)
folded_small ys [] all more = all
folded_small ys (z ∷ zs) all more = folded_small (insert ys z) zs (insert_small ys z all (All-head IsSmallState z zs more)) (All-tail IsSmallState z zs more)

rising_small : (zs : List (List ℕ)) → All IsSmallState zs → All IsSmallState (in_rising_price zs)
unfolding in_rising_price
rising_small zs all = folded_small [] zs (All-nil IsSmallState) all

later_small : (orders : List Order) → All IsOrderWithin orders → All IsSmallState (later_states orders)
later_small orders within =
    All-append IsSmallState (in_rising_price (breakpoints_of orders)) (last_state ∷ []) (rising_small (breakpoints_of orders) (breaks_small orders within))
    (All-cons IsSmallState last_state [] (two_small 0 1 (omega arith) (omega arith)) (All-nil IsSmallState))

-- ---- the line
pub net_has : (fills : List (Order × Fraction)) (z : List ℕ) → All IsFillOf fills → IsSmallState z → Has IsValue (net_of largest fills z)
net_has fills z all small =
    fold_has IsValue IsFillOf (add_payoff largest z)
    (λ total fill is of. after_has IsValue IsValue _ (λ h. add_for_side largest total fill.0.side fill.1 h) (bundle_has (bundle_of fill.0) z (legs_small fill.0 of.0) small) (λ h pays. for_side_has total fill.0.side fill.1 h is of.1 pays))
    (whole (pos 0)) fills zero_value all

holds_has : (fills : List (Order × Fraction)) (L : Fraction) (z : List ℕ) → All IsFillOf fills → IsValue L → IsSmallState z → Has Nothing (holds_at largest fills L z)
holds_has fills L z all is small =
    after_has IsValue Nothing (excess largest fills L z) (λ e. Ok (not (is_above_zero e)))
    (after_has IsValue IsValue (net_of largest fills z) (λ net. less_product largest net L (whole (pos (scale_of z)))) (net_has fills z all small)
    (λ net n. less_product_has net L (whole (pos (scale_of z))) n is (whole_value (pos (scale_of z)) (scale_small z small))))
    (λ e h. tt)

line_has : (orders : List Order) (fills : List Fraction) (L : Fraction) → All IsOrderWithin orders → All IsFillOf (zip orders fills) → IsValue L → Has Nothing (line_holds largest (zip orders fills) orders L)
line_has orders fills L within all is =
    let filled = zip orders fills in
    then_has (holds_at largest filled L (1 ∷ 0 ∷ [])) _ (holds_has filled L (1 ∷ 0 ∷ []) all is (two_small 1 0 (omega arith) (omega arith)))
    (then_has (all_of (holds_at largest filled L) (breakpoints_of orders)) (holds_at largest filled L (0 ∷ 1 ∷ []))
    (all_has IsSmallState (holds_at largest filled L) (λ z small. holds_has filled L z all is small) (breakpoints_of orders) (breaks_small orders within))
    (holds_has filled L (0 ∷ 1 ∷ []) all is (two_small 0 1 (omega arith) (omega arith))))

pub line_run_has : (left spent : ℕ) (orders : List Order) → All IsOrderWithin orders → Ends IsReadingOf (line_run largest largest left spent orders)
unfolding line_run
line_run_has left spent orders within =
    answer_ends IsReadingOf IsReadingOf (master_solve largest largest left spent 1 orders (later_states orders)) (where_fits (sums_hold largest orders))
    (solve_has left spent 1 orders (later_states orders) within (later_small orders within))
    (λ r units of. steps_end Nothing IsReadingOf units (sums_hold largest orders r) (λ b. done r units)
    (sums_have orders r (line_holds largest (zip orders r.fills) orders r.liability) within of (line_has orders r.fills r.liability within (fills_are HasListed orders r.fills (all_listed orders within) of.fills) of.liability))
    (λ b h. of))
