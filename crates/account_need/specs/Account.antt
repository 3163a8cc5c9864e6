-- The need of an account, market by market, and whether a balance is enough for it.
use Rattle.std.specs.Prelude.{ℕ, ◌+◌, ◌*◌, ◌++◌, Bool, true, false, not, ◌&&◌, ◌||◌, nat_eq, nat_le, nat_lt, int_le, List, [], ◌∷◌, map, length, ℤ, pos, ◌-ℤ◌, unsigned_abs, Result, Ok, Err, if◌then◌else◌}
use Rattle.std.specs.List.{list_any}
use Rattle.frac.specs.Range.{limit as largest}
use Rattle.form.specs.declared.limits.TheConstants.{MAX_OPTIONS, MAX_ORDERS}
use Rattle.form.specs.declared.orders.Order.{Order}
use Rattle.account_need.specs.declared.need.NoNeed.{NoNeed}
use Rattle.account_need.specs.declared.need.NoNeed.TheVariants.{Positions, Sum}
use Rattle.account_need.specs.Exposure.{Portfolio, asked_for}
use Rattle.account_need.specs.Rounded.{OptionSum, Summed, summed, unit}
use Rattle.account_need.specs.Line.{line_bound}
use Rattle.account_need.specs.Several.{Bounded, owing_in, several_bound}

-- ---- a market
-- more than 256 sums and live orders; on several underlyings also more than 256 entries, or a sum
-- above 10^6 options
abbrev pub is_large : OptionSum → Bool
is_large s = nat_lt (MAX_OPTIONS * unit) (unsigned_abs s.sum)

abbrev pub is_crowded : ℕ → Summed → Bool
is_crowded n p =
    nat_lt MAX_ORDERS (length p.sums + length p.live)
    || (not (nat_eq n 1) && (nat_lt MAX_ORDERS (length (owing_in n p)) || list_any is_large p.sums))

-- the bound of its exposure, and the units that are spent by then
abbrev pub bound_on : (is_one : Bool) → ℕ → ℕ → Summed → Bounded
bound_on true n spent p = Ok (line_bound p, spent)
bound_on false n spent p = several_bound n spent p

abbrev pub bound_unless : (crowded : Bool) → ℕ → ℕ → Summed → Bounded
bound_unless true n spent p = Err Positions
bound_unless false n spent p = bound_on (nat_eq n 1) n spent p

abbrev pub bound_of : ℕ → ℕ → Summed → Bounded
bound_of n spent p = bound_unless (is_crowded n p) n spent p

-- ---- all markets
-- an amount, or the word that stands in its place
abbrev pub Need : Type 0
Need = Result ℕ NoNeed

abbrev pub on_bound : Bounded → (ℤ → ℕ → Need) → Need
on_bound (Ok (S, spent)) next = next S spent
on_bound (Err word) next = Err word

abbrev pub on_amount : ℕ → (ℕ → Need) → Need
on_amount amount next = if nat_le amount largest then next amount else Err Sum

-- what the markets may ask together, after so much and so many units; or the first word
abbrev pub need_from : ℕ → ℕ → List Portfolio → Need
need_from so_far spent [] = Ok so_far
need_from so_far spent (p ∷ markets) =
    on_bound (bound_of p.underlyings spent (summed p)) (λ S later. on_amount (so_far + asked_for p.live (length p.positions) S) (λ amount. need_from amount later markets))

-- the markets in which an account has positions or live orders, by rising number
abbrev pub need_of : List Portfolio → Need
need_of markets = need_from 0 0 markets

-- ---- one order more
abbrev pub Numbered : Type 0
Numbered = ℕ × Portfolio

abbrev pub with_live : Portfolio → Order → Portfolio
with_live p order = record p { live = p.live ++ order ∷ [] }

abbrev pub new_market : ℕ → Portfolio
new_market n = record { underlyings = n; positions = []; live = [] }

-- it goes last among the live orders of its market, which has so many underlyings
abbrev pub with_order : ℕ → ℕ → Order → List Numbered → List Numbered
with_order market n order [] = (market, with_live (new_market n) order) ∷ []
with_order market n order ((number, p) ∷ markets) =
    if nat_lt number market then (number, p) ∷ with_order market n order markets
    else if nat_eq number market then (number, with_live p order) ∷ markets
    else (market, with_live (new_market n) order) ∷ (number, p) ∷ markets

abbrev pub portfolios : List Numbered → List Portfolio
portfolios markets = map (λ (m : Numbered). m.1) markets

-- ---- whether it can pay
-- the balance is at least the need; a word is never paid
abbrev pub can_pay : ℤ → Need → Bool
can_pay balance (Ok amount) = int_le (pos amount) balance
can_pay balance (Err word) = false

-- an account is secured, and as a secured one takes out an amount or places an order, only where the
-- balance then is enough
abbrev pub may_be_secured : List Numbered → ℤ → Bool
may_be_secured markets balance = can_pay balance (need_of (portfolios markets))

abbrev pub may_withdraw : List Numbered → ℤ → ℕ → Bool
may_withdraw markets balance amount = can_pay (balance -ℤ pos amount) (need_of (portfolios markets))

abbrev pub may_place : List Numbered → ℤ → ℕ → ℕ → Order → Bool
may_place markets balance market n order = can_pay balance (need_of (portfolios (with_order market n order markets)))
