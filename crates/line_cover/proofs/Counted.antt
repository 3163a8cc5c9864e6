-- How many states a line has.
use Rattle.std.proofs.Common.{ℕ, suc, ◌+◌, ◌≤◌, Bool, true, false, List, [], ◌∷◌, length, Option, Some, None, length-append, arith}
use Rattle.std.specs.Prelude.{if◌then◌else◌}
use Rattle.std.specs.List.{filter_map, cons_option, fold}
use Rattle.form.specs.Payoff.{BundleLeg}
use Rattle.line_cover.specs.Line.{breakpoint_of_leg, breakpoints_of, legs_of_orders}
use Rattle.line_cover.specs.Breakpoints.{is_below, insert, in_rising_price, last_state, later_states}
use Rattle.form.specs.declared.orders.Order.{Order}
use Rattle.line_cover.specs.Laws.{LineStatesAreFew}

insert_more : (ys : List (List ℕ)) (y z : List ℕ) (later : List (List ℕ)) (first second : Bool) → length later ≤ length ys + 1
    → length (if first then z ∷ y ∷ ys else if second then y ∷ later else y ∷ ys) ≤ suc (length ys) + 1
insert_more ys y z later true second h = omega arith
insert_more ys y z later false true h = omega (arith, h)
insert_more ys y z later false false h = omega arith

length-insert : (ys : List (List ℕ)) (z : List ℕ) → length (insert ys z) ≤ length ys + 1
unfolding insert
length-insert [] z = omega arith
length-insert (y ∷ ys) z = insert_more ys y z (insert ys z) (is_below z y) (is_below y z) (length-insert ys z)

length-inserted : (zs ys : List (List ℕ)) → length (fold insert ys zs) ≤ length ys + length zs
length-inserted [] ys = omega arith
length-inserted (z ∷ zs) ys = omega (arith, length-inserted zs (insert ys z), length-insert ys z)

length-rising : (zs : List (List ℕ)) → length (in_rising_price zs) ≤ length zs
unfolding in_rising_price
length-rising zs = omega (arith, length-inserted zs [])

counted_some : (r : Option (List ℕ)) (rest : List (List ℕ)) (n : ℕ) → length rest ≤ n → length (cons_option r rest) ≤ suc n
counted_some None rest n h = omega (arith, h)
counted_some (Some z) rest n h = omega (arith, h)

length-some : (legs : List BundleLeg) → length (filter_map breakpoint_of_leg legs) ≤ length legs
length-some [] = omega arith
length-some (leg ∷ legs) = counted_some (breakpoint_of_leg leg) (filter_map breakpoint_of_leg legs) (length legs) (length-some legs)

-- at most one more than legs come after the first
pub length-later : (orders : List Order) → length (later_states orders) ≤ length (legs_of_orders orders) + 1
length-later orders =
    let breaks = breakpoints_of orders in
    omega (arith, length-append (in_rising_price breaks) (last_state ∷ []), length-rising breaks, length-some (legs_of_orders orders))

pub line_states_are_few : LineStatesAreFew
line_states_are_few orders = omega (arith, length-later orders)
