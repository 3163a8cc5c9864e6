-- How the probes along lines end, and that there are few.
use Rattle.std.proofs.Common.{ℕ, suc, zero, ◌≤◌, ◌==◌, Bool, true, false, List, [], ◌∷◌, length, arith, Option, Some, None, if◌then◌else◌, refl, ap}
use Rattle.form.specs.declared.orders.Side.{Side}
use Rattle.form.specs.declared.orders.Order.{Order}
use Rattle.form.specs.declared.orders.Batch.{Batch}
use Rattle.cert_check.specs.declared.outcome.Outcome.{Outcome}
use Rattle.clearing.specs.Outcome.{outcome_of}
use Rattle.option_quotes.specs.declared.prices.SidePrice.{SidePrice}
use Rattle.option_quotes.specs.declared.prices.SidePrice.TheVariants.{At, Never, Unmarked, Spent}
use Rattle.option_quotes.specs.Implied.{above_of, above_probes, landed_at, landed_probes, most_walked, next_along, next_better, price_from_best, probes_along, side_price, walked_all, walked_from, walked_probes}
use Rattle.option_quotes.specs.Probes.{Probe, best_price, first_unmarked, is_optimal, is_raised, probe_at, probe_outcome, worst_price}
use Rattle.option_quotes.specs.Shown.{EndsAsProbed, EndsBy}

-- probes end as what is found of them says
pub record Ends (most : ℕ) (probes : List Probe) (found : SidePrice) : Type 0 where
  pub few : length probes ≤ most
  pub ends : EndsBy most (first_unmarked probes) (length probes) found

-- one probe more in front, which is marked
more_ends : (most count : ℕ) (unmarked : Option Probe) (found : SidePrice) → EndsBy most unmarked count found → EndsBy (suc most) unmarked (suc count) found
more_ends most count unmarked (At price raising beside) is = is
more_ends most count unmarked (Never extreme) is = is
more_ends most count unmarked (Unmarked price outcome) is = is
more_ends most count unmarked Spent is = (is.0, ap suc is.1)

-- by the mark of the probe in front
by_mark : (most : ℕ) (f : ℕ → Outcome) (price : ℕ) (rest : List Probe) (found : SidePrice) (marked : Bool) → Ends most rest found
    → EndsBy (suc most) (if marked then first_unmarked rest else Some (probe_at f price)) (suc (length rest)) (if marked then found else Unmarked price (f price))
by_mark most f price rest found true is = more_ends most (length rest) (first_unmarked rest) found is.ends
by_mark most f price rest found false is = refl

in_front : (most : ℕ) (f : ℕ → Outcome) (price : ℕ) (rest : List Probe) (found : SidePrice) → Ends most rest found
    → Ends (suc most) (probe_at f price ∷ rest) (if is_optimal (f price) then found else Unmarked price (f price))
in_front most f price rest found is = record { few = omega (arith, is.few); ends = by_mark most f price rest found (is_optimal (f price)) is }

none_ends : (most price : ℕ) (raising : Outcome) (beside : Option Outcome) → Ends most [] (At price raising beside)
none_ends most price raising beside = record { few = omega arith; ends = refl }

either_ends : (most : ℕ) (test : Bool) (a b : List Probe) (x y : SidePrice) → Ends most a x → Ends most b y → Ends most (if test then a else b) (if test then x else y)
either_ends most true a b x y first other = first
either_ends most false a b x y first other = other

above_ends : (f : ℕ → Outcome) (left above other : ℕ) → Ends left (above_probes f left above) (above_of f left above other)
above_ends f zero above other = record { few = omega arith; ends = (refl, refl) }
above_ends f (suc left) above other = in_front left f above [] (At above (f above) (Some (f other))) (none_ends left above (f above) (Some (f other)))

landed_ends : (f : ℕ → Outcome) (side : Side) (left price other : ℕ) → Ends left (landed_probes f side left price other) (landed_at f side left price other)
landed_ends f side left price other =
    either_ends left (next_better side other == price) [] _ _ _ (none_ends left price (f price) (Some (f other))) (above_ends f left (next_better side other) other)

walk_ends : (f : ℕ → Outcome) (base : Outcome) (side : Side) (left price : ℕ) → Ends left (walked_probes f base side left price) (walked_from f base side left price)
unfolding walked_from walked_probes
walk_ends f base side zero price = by (price == worst_price side)
  where
    by : (test : Bool) → Ends 0 [] (if test then At price (f price) None else Spent)
    by true = none_ends 0 price (f price) None
    by false = record { few = omega arith; ends = (refl, refl) }
walk_ends f base side (suc left) price =
    let other = next_along base side price (f price) in
    let rest = either_ends left (is_raised base (f other)) _ _ _ _ (walk_ends f base side left other) (landed_ends f side left price other) in
    either_ends (suc left) (price == worst_price side) [] _ _ _ (none_ends (suc left) price (f price) None) (in_front left f other _ _ rest)

never_ends : (most : ℕ) (extreme : Outcome) → Ends most [] (Never extreme)
never_ends most extreme = record { few = omega arith; ends = refl }

best_ends : (f : ℕ → Outcome) (base : Outcome) (side : Side) → Ends 60 (probes_along f base side) (price_from_best f base side)
unfolding probes_along walked_all most_walked
best_ends f base side =
    let best = best_price side in
    in_front 59 f best _ _ (either_ends 59 (is_raised base (f best)) _ _ _ _ (walk_ends f base side 59 best) (never_ends 59 (f best)))

pub side_ends : (batch : Batch) (order : Order) (limit : ℕ) → EndsAsProbed batch order limit (side_price batch order limit)
unfolding side_price
side_ends batch order limit =
    let is = best_ends (probe_outcome batch order limit) (outcome_of batch limit) order.side in
    record { few = is.few; ends = is.ends }
