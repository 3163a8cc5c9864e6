-- The numbers of what is read off an optimum of the master program, and of the sums of the verdict
-- on it.
use Rattle.std.proofs.Common.{ℕ, ◌≤◌, List, [], ◌∷◌, length, replicate, drop, take, zip, Bool, true, false, pos, arith}
use Rattle.std.specs.Prelude.{Result, Ok, if◌then◌else◌}
use Rattle.std.specs.List.{All}
use Rattle.std.proofs.lemmas.Int.{ints}
use Rattle.std.proofs.lemmas.List.Elements.{All-nil, All-cons, All-head, All-tail, All-drop, All-replicate, All-take}
use Rattle.exact_num.specs.declared.misfit.Wide.{Wide}
use Rattle.exact_num.specs.Fraction.{Fraction, whole}
use Rattle.exact_num.specs.Fits.{after, sub_of, whole_of}
use Rattle.exact_num.specs.Steps.{plus_product}
use Rattle.exact_num.specs.Tests.{is_above_zero, is_same}
use Rattle.frac.specs.Range.{limit as largest}
use Rattle.form.specs.declared.orders.Order.{Order}
use Rattle.form.specs.declared.orders.Side.{Side}
use Rattle.form.specs.declared.orders.Side.TheVariants.{Buy, Sell}
use Rattle.form.specs.Limits.{IsOrderWithin}
use Rattle.form.specs.Payoff.{bundle_of}
use Rattle.form.specs.Vector.{scale_of}
use Rattle.clearing_model.specs.Certificate.{Point}
use Rattle.cert_check.specs.Tests.{add_premium, bound_holds, is_claimed, measure_holds, premium_of, surplus_holds}
use Rattle.cert_check.specs.MeasureSums.{add_gain, add_mass, add_price, are_weights, bound_of, gain_at, mass_of, plus_gain, price_of}
use Rattle.master_program.specs.Master.{master, payoff_at_zero, signed_for, zero_prices}
use Rattle.master_program.specs.Reading.{Reading, add_owed, has_weight, liability_of, owed_of, points_of, points_with_weight}
use Rattle.master_program.specs.Solve.{master_run, master_solve, on_optimum, reading_at}
use Rattle.master_program.specs.Verdict.{sums_with}
use Rattle.simplex_run.specs.Ending.{done}
use Rattle.simplex_run.specs.Places.{at, fraction_zero}
use Rattle.simplex_run.specs.Run.{Optimum, optimum, run}
use Rattle.run_values.specs.Values.{AreValues, Ends, IsPointOf, IsReadingOf, IsSmall, IsSmallState, IsValue}
use Rattle.run_values.proofs.Masters.{HasValues, master_has}
use Rattle.run_values.proofs.Numbers.{Has, Nothing, add_has, after_has, answer_ends, fold_has, for_side_has, plus_product_has, signed_value, steps_end, sub_has, then_has, whole_has, whole_value, zero_value}
use Rattle.run_values.proofs.Payoffs.{HasListed, all_listed, at_zero_small, bundle_has, legs_small, scale_small}
use Rattle.run_values.proofs.Runs.{IsOptimumOf, at_value, run_has}

-- ---- what is read off
-- an order with its fill
abbrev IsFillBy : (Order → Type 0) → Order × Fraction → Type 0
IsFillBy P fill = P fill.0 × IsValue fill.1

abbrev pub IsFillOf : Order × Fraction → Type 0
IsFillOf = IsFillBy HasListed

pub fills_are : (P : Order → Type 0) (orders : List Order) (fills : List Fraction) → All P orders → AreValues fills → All (IsFillBy P) (zip orders fills)
fills_are P [] fills all are = All-nil (IsFillBy P)
fills_are P (order ∷ orders) [] all are = All-nil (IsFillBy P)
fills_are P (order ∷ orders) (fill ∷ fills) all are =
    All-cons (IsFillBy P) (order, fill) (zip orders fills) (All-head P order orders all, All-head IsValue fill fills are)
    (fills_are P orders fills (All-tail P order orders all) (All-tail IsValue fill fills are))

owed_has : (total : Fraction) (fill : Order × Fraction) → IsValue total → IsFillOf fill → Has IsValue (add_owed largest total fill)
unfolding add_owed
owed_has total fill is of =
    after_has IsValue IsValue (whole_of largest (payoff_at_zero fill.0)) _ (whole_has (payoff_at_zero fill.0) (at_zero_small fill.0 of.0))
    (λ first f. plus_product_has total fill.1 (signed_for fill.0.side first) is of.1 (signed_value fill.0.side first f))

liability_has : (orders : List Order) (fills : List Fraction) (slack : Fraction) → All IsOrderWithin orders → AreValues fills → IsValue slack → Has IsValue (liability_of largest orders fills slack)
unfolding liability_of
liability_has orders fills slack within are is =
    after_has IsValue IsValue (owed_of largest (zip orders fills)) _
    (fold_has IsValue IsFillOf (add_owed largest) owed_has fraction_zero (zip orders fills) zero_value (fills_are HasListed orders fills (all_listed orders within) are))
    (λ owed o. add_has owed slack o is)

pairs_are : (states : List (List ℕ)) (ys : List Fraction) → All IsSmallState states → AreValues ys → All IsPointOf (zip states ys)
pairs_are [] ys small are = All-nil IsPointOf
pairs_are (z ∷ states) [] small are = All-nil IsPointOf
pairs_are (z ∷ states) (y ∷ ys) small are =
    All-cons IsPointOf (z, y) (zip states ys) (All-head IsSmallState z states small, All-head IsValue y ys are) (pairs_are states ys (All-tail IsSmallState z states small) (All-tail IsValue y ys are))

weighted_are : (points : List Point) → All IsPointOf points → All IsPointOf (points_with_weight points)
weighted_are [] all = All-nil IsPointOf
weighted_are (point ∷ points) all = by (has_weight point) (weighted_are points (All-tail IsPointOf point points all))
  where
    by : (b : Bool) → All IsPointOf (points_with_weight points) → All IsPointOf (if b then point ∷ points_with_weight points else points_with_weight points)
    by true rest = All-cons IsPointOf point (points_with_weight points) (All-head IsPointOf point points all) rest
    by false rest = rest

reading_has : (first : List ℕ) (orders : List Order) (states : List (List ℕ)) (o : Optimum) → IsSmallState first → All IsOrderWithin orders → All IsSmallState states → IsOptimumOf o
    → Has IsReadingOf (reading_at largest first orders states o)
reading_has first orders states (optimum x y reduced value) start within small is =
    let k : ℕ = length orders in
    let fills = take k x in
    let points = points_of k first states y reduced in
    let all : All IsPointOf points = All-cons IsPointOf (first, at reduced k) (zip states (drop k y)) (start, at_value reduced k is.2) (pairs_are states (drop k y) small (All-drop IsValue k y is.1)) in
    after_has IsValue IsReadingOf (liability_of largest orders fills (at x k)) _ (liability_has orders fills (at x k) within (All-take IsValue k x is.0) (at_value x k is.0))
    (λ liability l. record { fills = All-take IsValue k x is.0; liability = l; surplus = is.3; points = weighted_are points all })

zero_small : (n : ℕ) → IsSmallState (zero_prices n)
zero_small n = All-cons IsSmall 1 (replicate n 0) (omega arith) (All-replicate IsSmall n 0 (omega arith))

pub solve_has : (left spent n : ℕ) (orders : List Order) (states : List (List ℕ)) → All IsOrderWithin orders → All IsSmallState states
    → Ends IsReadingOf (master_solve largest largest left spent n orders states)
unfolding master_solve
solve_has left spent n orders states within small =
    answer_ends IsOptimumOf IsReadingOf (master_run largest largest left spent orders states) (on_optimum largest (zero_prices n) orders states)
    (steps_end HasValues IsOptimumOf spent (master largest largest orders states) (λ program. run largest program left spent) (master_has orders states within small) (λ program has. run_has program left spent has))
    (λ o units is. steps_end IsReadingOf IsReadingOf units (reading_at largest (zero_prices n) orders states o) (λ reading. done reading units) (reading_has (zero_prices n) orders states o (zero_small n) within small is) (λ reading r. r))

-- ---- the sums of the verdict
premium_has : (fills : List (Order × Fraction)) → All (IsFillBy IsOrderWithin) fills → Has IsValue (premium_of largest fills)
premium_has fills all =
    fold_has IsValue (IsFillBy IsOrderWithin) (add_premium largest)
    (λ total fill is of. let cheap = of.0.price in for_side_has total fill.0.side fill.1 (whole (pos fill.0.price)) is of.1 (whole_value (pos fill.0.price) (omega (arith, ints, cheap))))
    (whole (pos 0)) fills zero_value all

surplus_has : (fills : List (Order × Fraction)) (L S : Fraction) → All (IsFillBy IsOrderWithin) fills → IsValue L → Has Nothing (surplus_holds largest fills L S)
surplus_has fills L S all is =
    after_has IsValue Nothing (premium_of largest fills) _ (premium_has fills all)
    (λ premium p. after_has IsValue Nothing (sub_of largest premium L) (λ left. Ok (is_claimed S left)) (sub_has premium L p is) (λ left l. tt))

mass_has : (points : List Point) → All IsPointOf points → Has Nothing (measure_holds largest points)
mass_has points all = by (are_weights points)
  where
    by : (b : Bool) → Has Nothing (if b then after (mass_of largest points) (λ sum. Ok (is_same sum (whole (pos 1)))) else Ok false)
    by true =
        after_has IsValue Nothing (mass_of largest points) (λ sum. Ok (is_same sum (whole (pos 1))))
        (fold_has IsValue IsPointOf (add_mass largest)
        (λ total point is of. plus_product_has total point.1 (whole (pos (scale_of point.0))) is of.1 (whole_value (pos (scale_of point.0)) (scale_small point.0 of.0)))
        (whole (pos 0)) points zero_value all)
        (λ sum s. tt)
    by false = tt

price_has : (order : Order) (points : List Point) → IsOrderWithin order → All IsPointOf points → Has IsValue (price_of largest (bundle_of order) points)
price_has order points within all =
    fold_has IsValue IsPointOf (add_price largest (bundle_of order))
    (λ total point is of. after_has IsValue IsValue _ (λ h. plus_product largest total point.1 h) (bundle_has (bundle_of order) point.0 (legs_small order within.options) of.0) (λ h pays. plus_product_has total point.1 h is of.1 pays))
    (whole (pos 0)) points zero_value all

gain_has : (side : Side) (limit price : Fraction) → IsValue limit → IsValue price → Has IsValue (gain_at largest side limit price)
gain_has Buy limit price l p = sub_has limit price l p
gain_has Sell limit price l p = sub_has price limit p l

plus_gain_has : (total : Fraction) (quantity : ℕ) (gain : Fraction) → IsValue total → quantity ≤ largest → IsValue gain → Has IsValue (plus_gain largest total quantity gain)
plus_gain_has total quantity gain is few g = by (is_above_zero gain)
  where
    by : (b : Bool) → Has IsValue (if b then plus_product largest total (whole (pos quantity)) gain else Ok total)
    by true = plus_product_has total (whole (pos quantity)) gain is (whole_value (pos quantity) few) g
    by false = is

bound_has : (orders : List Order) (points : List Point) (S : Fraction) → All IsOrderWithin orders → All IsPointOf points → Has Nothing (bound_holds largest orders points S)
bound_has orders points S within all =
    after_has IsValue Nothing (bound_of largest orders points) (λ bound. Ok (is_same bound S))
    (fold_has IsValue IsOrderWithin (add_gain largest points)
    (λ total order is one.
    let cheap = one.price in
    let few = one.quantity in
    after_has IsValue IsValue (price_of largest (bundle_of order) points) _ (price_has order points one all)
    (λ price p. after_has IsValue IsValue (gain_at largest order.side (whole (pos order.price)) price) (plus_gain largest total order.quantity)
    (gain_has order.side (whole (pos order.price)) price (whole_value (pos order.price) (omega (arith, ints, cheap))) p)
    (λ gain g. plus_gain_has total order.quantity gain is (omega (arith, few)) g)))
    (whole (pos 0)) orders zero_value within)
    (λ bound b. tt)

-- with those of the cover
pub sums_have : (orders : List Order) (r : Reading) (covers : Result Bool Wide) → All IsOrderWithin orders → IsReadingOf r → Has Nothing covers → Has Nothing (sums_with largest orders r covers)
sums_have orders r covers within of h =
    then_has (surplus_holds largest (zip orders r.fills) r.liability r.surplus) _ (surplus_has (zip orders r.fills) r.liability r.surplus (fills_are IsOrderWithin orders r.fills within of.fills) of.liability)
    (then_has covers _ h (then_has (measure_holds largest r.measure) (bound_holds largest orders r.measure r.surplus) (mass_has r.measure of.points) (bound_has orders r.measure r.surplus within of.points)))
