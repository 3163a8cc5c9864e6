-- The numbers of the master program.
use Rattle.std.proofs.Common.{ℕ, zero, suc, ◌≤◌, ◌+◌, List, [], ◌∷◌, length, map, replicate, ℤ, pos, negsuc, unsigned_abs, arith}
use Rattle.std.specs.List.{All, flat_map}
use Rattle.std.proofs.lemmas.Int.{ints}
use Rattle.std.proofs.lemmas.List.Elements.{All-nil, All-cons, All-head, All-tail, All-append, All-map, All-replicate, All-weaker}
use Rattle.exact_num.specs.Fraction.{negated, whole}
use Rattle.exact_num.specs.Fits.{mul_of, sub_of, whole_of}
use Rattle.frac.specs.Range.{limit as largest}
use Rattle.form.specs.declared.orders.Order.{Order}
use Rattle.form.specs.Limits.{IsOrderWithin}
use Rattle.form.specs.Vector.{scale_of}
use Rattle.master_program.specs.Master.{cost_steps, entry_steps, map_steps, master, order_payoff, payoff_at_zero, quantity_rows, quantity_steps, row_steps, rows_steps}
use Rattle.simplex_run.specs.Places.{fraction_zero}
use Rattle.simplex_run.specs.Program.{LinearProgram}
use Rattle.run_values.specs.Values.{AreValues, IsSmallState, IsValue}
use Rattle.run_values.proofs.Numbers.{Has, after_has, map_has, mul_has, negated_value, signed_value, sub_has, whole_has, whole_value, zero_value}
use Rattle.run_values.proofs.Payoffs.{at_zero_small, order_has, scale_small}

pub record HasValues (p : LinearProgram) : Type 0 where
  pub coefficients : AreValues p.coefficients
  pub right_sides : AreValues p.right_sides
  pub costs : AreValues p.costs

cost_has : (order : Order) → IsOrderWithin order → Has IsValue (cost_steps largest order)
unfolding cost_steps
cost_has order within =
    let cheap = within.price in
    after_has IsValue IsValue (whole_of largest (pos order.price)) _ (whole_has (pos order.price) (omega (arith, ints, cheap)))
    (λ price p. after_has IsValue IsValue (whole_of largest (payoff_at_zero order)) _ (whole_has (payoff_at_zero order) (at_zero_small order within.options))
    (λ first f. after_has IsValue IsValue (sub_of largest price first) _ (sub_has price first p f) (λ cost c. signed_value order.side cost c)))

entry_has : (z : List ℕ) (order : Order) → IsSmallState z → IsOrderWithin order → Has IsValue (entry_steps largest largest z order)
unfolding entry_steps
entry_has z order small within =
    after_has IsValue IsValue (order_payoff largest order z) _ (order_has order z within.options small)
    (λ payoff p. after_has IsValue IsValue (whole_of largest (pos (scale_of z))) _ (whole_has (pos (scale_of z)) (scale_small z small))
    (λ t s. after_has IsValue IsValue (whole_of largest (payoff_at_zero order)) _ (whole_has (payoff_at_zero order) (at_zero_small order within.options))
    (λ first f. after_has IsValue IsValue (mul_of largest t first) _ (mul_has t first s f)
    (λ aside a. after_has IsValue IsValue (whole_of largest payoff.numerator) _ (whole_has payoff.numerator p.small.above)
    (λ owed o. after_has IsValue IsValue (sub_of largest owed aside) _ (sub_has owed aside o a) (λ entry e. signed_value order.side entry e))))))

row_has : (orders : List Order) (z : List ℕ) → All IsOrderWithin orders → IsSmallState z → Has AreValues (row_steps largest largest orders z)
unfolding row_steps
row_has orders z within small =
    after_has AreValues AreValues (map_steps (entry_steps largest largest z) orders) _ (map_has IsOrderWithin IsValue (entry_steps largest largest z) (λ order one. entry_has z order small one) orders within)
    (λ entries es. after_has IsValue AreValues (whole_of largest (pos (scale_of z))) _ (whole_has (pos (scale_of z)) (scale_small z small))
    (λ t s. All-append IsValue entries (negated t ∷ []) es (All-cons IsValue (negated t) [] (negated_value t s) (All-nil IsValue))))

rows_has : (orders : List Order) (states : List (List ℕ)) → All IsOrderWithin orders → All IsSmallState states → Has AreValues (rows_steps largest largest orders states)
unfolding rows_steps
rows_has orders [] within small = All-nil IsValue
rows_has orders (z ∷ states) within small =
    after_has AreValues AreValues (row_steps largest largest orders z) _ (row_has orders z within (All-head IsSmallState z states small))
    (λ row r. after_has AreValues AreValues (rows_steps largest largest orders states) _ (rows_has orders states within (All-tail IsSmallState z states small))
    (λ rows rs. All-append IsValue row rows r rs))

-- ---- rows of 0 and 1
-- 0, 1 and -1
abbrev pub IsUnit : ℤ → Type 0
IsUnit v = unsigned_abs v ≤ 1

quantities_are : (k : ℕ) → All (All IsUnit) (quantity_rows k)
quantities_are zero = All-nil (All IsUnit)
quantities_are (suc k) =
    let Front : List ℤ → List ℤ = λ r. pos 0 ∷ r in
    let first = All-cons IsUnit (pos 1) (replicate (k + 1) (pos 0)) (omega arith) (All-replicate IsUnit (k + 1) (pos 0) (omega arith)) in
    let others = All-map (All IsUnit) Front (quantity_rows k) (All-weaker (All IsUnit) (λ r. All IsUnit (Front r)) (λ r within. All-cons IsUnit (pos 0) r (omega arith) within) (quantity_rows k) (quantities_are k)) in
    All-cons (All IsUnit) (pos 1 ∷ replicate (k + 1) (pos 0)) (map Front (quantity_rows k)) first others

pub units_are : (row : List ℤ) → All IsUnit row → AreValues (map whole row)
units_are row units = All-map IsValue whole row (All-weaker IsUnit (λ v. IsValue (whole v)) (λ v low. whole_value v (omega (arith, low))) row units)

rows_are : (rows : List (List ℤ)) → All (All IsUnit) rows → AreValues (flat_map (map whole) rows)
rows_are [] units = All-nil IsValue
rows_are (row ∷ rows) units =
    All-append IsValue (map whole row) (flat_map (map whole) rows) (units_are row (All-head (All IsUnit) row rows units)) (rows_are rows (All-tail (All IsUnit) row rows units))

-- ---- the whole
pub master_has : (orders : List Order) (states : List (List ℕ)) → All IsOrderWithin orders → All IsSmallState states → Has HasValues (master largest largest orders states)
unfolding master
master_has orders states within small =
    after_has AreValues HasValues (map_steps (cost_steps largest) orders) _ (map_has IsOrderWithin IsValue (cost_steps largest) cost_has orders within)
    (λ costs cs. after_has AreValues HasValues (map_steps (quantity_steps largest) orders) _
    (map_has IsOrderWithin IsValue (quantity_steps largest) (λ order one. let low = one.quantity in whole_has (pos order.quantity) (omega (arith, ints, low))) orders within)
    (λ quantities qs. after_has AreValues HasValues (rows_steps largest largest orders states) _ (rows_has orders states within small)
    (λ rows rs. record {
      coefficients = All-append IsValue (flat_map (map whole) (quantity_rows (length orders))) rows (rows_are (quantity_rows (length orders)) (quantities_are (length orders))) rs;
      right_sides = All-append IsValue quantities (replicate (length states) fraction_zero) qs (All-replicate IsValue (length states) fraction_zero zero_value);
      costs = All-append IsValue costs (whole (negsuc 0) ∷ []) cs (All-cons IsValue (whole (negsuc 0)) [] (whole_value (negsuc 0) (omega arith)) (All-nil IsValue));
    })))
