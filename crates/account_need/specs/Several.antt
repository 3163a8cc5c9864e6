-- A bound of what a market on several underlyings may ask: the run of a margin over what is owed and
-- the live sells of one option, and a run for each other live order by itself.
use Rattle.std.specs.Prelude.{ℕ, zero, suc, ◌+◌, ◌-◌, ◌*◌, ◌++◌, Bool, false, not, ◌&&◌, nat_le, int_lt, List, [], ◌∷◌, map, filter, replicate, ℤ, pos, negsuc, ◌+ℤ◌, ◌-ℤ◌, unsigned_abs, Result, Ok, Err, if◌then◌else◌}
use Rattle.std.specs.List.{list_all}
use Rattle.std.specs.Ordering.{int_eq}
use Rattle.arithmetic.specs.Sums.{positive_part}
use Rattle.exact_num.specs.Fraction.{Fraction, reduced, whole}
use Rattle.frac.specs.Range.{limit as largest}
use Rattle.frac.specs.ValueOf.{value_of}
use Rattle.form.specs.declared.bundles.Bundle.{Bundle}
use Rattle.form.specs.declared.orders.Order.{Order}
use Rattle.form.specs.declared.orders.Side.{Side}
use Rattle.form.specs.declared.orders.Side.TheVariants.{Buy, Sell}
use Rattle.form.specs.BundleOf.{bundle_one}
use Rattle.form.specs.FormOf.{form_of}
use Rattle.form.specs.Payoff.{BundleLeg, bundle_legs}
use Rattle.form.specs.Vector.{call_of}
use Rattle.limits.specs.declared.TheConstants.{MAX_SETTLEMENT_PRICE}
use Rattle.settlement.specs.declared.position.Position.{Position}
use Rattle.simplex_run.specs.Ending.{Ending, done, unbounded, wide_at, no_unit_left}
use Rattle.portfolio_margin.specs.Need.{ceil_of}
use Rattle.portfolio_margin.specs.Run.{Margin, asked_for, least, endless, margin_run}
use Rattle.account_need.specs.declared.need.NoNeed.{NoNeed}
use Rattle.account_need.specs.declared.need.NoNeed.TheVariants.{Unbounded, Wide, Budget, Sum}
use Rattle.account_need.specs.Rounded.{OptionSum, Summed, unit}

-- ---- what a run is asked about
-- so much of a bundle that is owed, a Sell, or due, a Buy
abbrev pub owing : Side → Bundle → Fraction → Position
owing side bundle fill = record { market = 1; batch = 1; order = 1; account = 1; side = side; bundle = bundle; fill = value_of fill }

abbrev pub option_owing : Side → List ℤ → Fraction → Position
option_owing side v fill = owing side (bundle_one (form_of v)) fill

-- a sum above 0 is owed, and one below 0 is due
abbrev pub side_of : ℤ → Side
side_of (pos n) = Sell
side_of (negsuc n) = Buy

abbrev pub owing_sum : OptionSum → Position
owing_sum s = option_owing (side_of s.sum) s.option (reduced (pos (unsigned_abs s.sum)) unit)

-- a live sell of one option that counts once is owed whole
abbrev pub counts_once : List BundleLeg → Bool
counts_once [] = false
counts_once (leg ∷ []) = int_eq leg.count (pos 1)
counts_once (leg ∷ next ∷ legs) = false

abbrev pub if_sell : Side → Bool → Bool
if_sell Buy b = false
if_sell Sell b = b

abbrev pub is_single_sell : Order → Bool
is_single_sell o = if_sell o.side (counts_once (bundle_legs o.bundle))

abbrev pub owing_single : Order → Position
owing_single o = owing Sell o.bundle (whole (pos o.quantity))

-- one call with strike 10^9 is due on each underlying: it pays nothing in the box
abbrev pub top_call : ℕ → ℕ → List ℤ
top_call before after = call_of (pos MAX_SETTLEMENT_PRICE) (replicate before (pos 0) ++ pos 1 ∷ replicate after (pos 0))

abbrev pub tops_from : ℕ → ℕ → List Position
tops_from before zero = []
tops_from before (suc after) = option_owing Buy (top_call before after) (whole (pos 1)) ∷ tops_from (before + 1) after

abbrev pub tops : ℕ → List Position
tops n = tops_from 0 n

abbrev pub owing_in : ℕ → Summed → List Position
owing_in n p = map owing_sum p.sums ++ map owing_single (filter is_single_sell p.live) ++ tops n

-- ---- a run
-- the units that all runs of one account's need may spend
abbrev pub need_budget : ℕ
need_budget = 200

-- the bound that a run ends with, rounded up, and the units that are spent by then
abbrev pub Bounded : Type 0
Bounded = Result (ℤ × ℕ) NoNeed

abbrev pub bounded_by : ℕ → Ending Margin → Bounded
bounded_by spent (done (least L at tree) units) = Ok (ceil_of L.numerator L.denominator, spent + units)
bounded_by spent (done (endless ray) units) = Err Unbounded
bounded_by spent (unbounded direction units) = Err Budget
bounded_by spent (wide_at units wide) = Err Wide
bounded_by spent (no_unit_left units) = Err Budget

abbrev pub run_over : ℕ → ℕ → List Position → Bounded
run_over n spent positions = bounded_by spent (margin_run (asked_for largest (need_budget - spent) n positions))

abbrev pub and_then : Bounded → (ℤ → ℕ → Bounded) → Bounded
and_then (Ok (S, spent)) next = next S spent
and_then (Err word) next = Err word

-- ---- live orders by themselves
-- a buy whose counts are all above 0 loses no more than its premium
abbrev pub if_buy_then : Side → Bool → Bool
if_buy_then Buy b = b
if_buy_then Sell b = false

abbrev pub has_plain_legs : List BundleLeg → Bool
has_plain_legs legs = list_all (λ (leg : BundleLeg). int_lt (pos 0) leg.count) legs

abbrev pub is_plain_buy : Order → Bool
is_plain_buy o = if_buy_then o.side (has_plain_legs (bundle_legs o.bundle))

abbrev pub is_by_itself : Order → Bool
is_by_itself o = not (is_single_sell o) && not (is_plain_buy o)

-- a sell owes its bundle and gets its price, and a buy is to get it
abbrev pub owing_one : ℕ → Order → List Position
owing_one n o = owing o.side o.bundle (whole (pos 1)) ∷ tops n

abbrev pub less_price : Side → ℕ → ℤ → ℤ
less_price Buy price L = L
less_price Sell price L = L -ℤ pos price

abbrev pub own_loss : Order → ℤ → ℕ
own_loss o L = o.quantity * positive_part (less_price o.side o.price L)

-- a sum that passes the limit is the word
abbrev pub within : ℤ → ℕ → Bounded
within S spent = if nat_le (unsigned_abs S) largest then Ok (S, spent) else Err Sum

abbrev pub with_one : ℕ → Order → ℤ → ℕ → Bounded
with_one n o S spent =
    and_then (run_over n spent (owing_one n o)) (λ L later. within (S +ℤ pos (own_loss o L)) later)

abbrev pub with_own : ℕ → List Order → ℤ → ℕ → Bounded
with_own n [] S spent = Ok (S, spent)
with_own n (o ∷ live) S spent = and_then (with_one n o S spent) (with_own n live)

abbrev pub several_bound : ℕ → ℕ → Summed → Bounded
several_bound n spent p = and_then (run_over n spent (owing_in n p)) (with_own n (filter is_by_itself p.live))
