-- Markets as plain lists.
use Rattle.std.specs.Prelude.{ℕ, Bool, true, List, [], ◌∷◌, nat_eq, not, filter, map, Option, Some, None, is_some, if◌then◌else◌}
use Rattle.std.specs.List.{find, flat_map}
use Rattle.std.specs.Map.{lookup}
use Rattle.std.specs.Option.{option_map_or}
use Rattle.form.specs.declared.orders.Order.{Order}

-- what a contract sees of a market
pub record MarketState : Type 0 where
  pub underlyings : ℕ
  -- it is settled for good
  pub settled : Bool
  -- its live orders, in rising number
  pub live : List Order

-- markets in the order in which they were listed, each with its number
abbrev pub Markets : Type 0
Markets = List (ℕ × MarketState)

abbrev pub has_number : ℕ → Order → Bool
has_number number order = nat_eq number order.id

abbrev pub with_live : MarketState → List Order → MarketState
with_live market live = record market { live = live }

-- the live orders of a market; none where there is no such market
abbrev pub live_in : ℕ → Markets → List Order
live_in market markets = option_map_or (λ (m : MarketState). m.live) (lookup (nat_eq market) markets) []

-- all live orders, market by market
abbrev pub live_orders : Markets → List Order
live_orders markets = flat_map (λ (m : ℕ × MarketState). m.1.live) markets

-- a market that is settled: it has no live orders
abbrev pub settled_market : MarketState → MarketState
settled_market market = record market { settled = true; live = [] }

-- the markets with one of them changed
abbrev pub changed_in : (MarketState → MarketState) → ℕ → Markets → Markets
changed_in change market [] = []
changed_in change market (m ∷ markets) = if nat_eq market m.0 then (m.0, change m.1) ∷ markets else m ∷ changed_in change market markets

-- the markets with other live orders in one of them
abbrev pub with_live_in : ℕ → List Order → Markets → Markets
with_live_in market live markets = changed_in (λ m. with_live m live) market markets

-- the orders but those with the number
abbrev pub without : ℕ → List Order → List Order
without number orders = filter (λ order. not (has_number number order)) orders

-- the markets, of which none has a live order with the number
abbrev pub without_in_each : ℕ → Markets → Markets
without_in_each number markets = map (λ (m : ℕ × MarketState). (m.0, with_live m.1 (without number m.1.live))) markets

-- the first market with a live order of the number
abbrev pub holder_of : ℕ → Markets → Option ℕ
holder_of number [] = None
holder_of number (m ∷ markets) = if is_some (find (has_number number) m.1.live) then Some m.0 else holder_of number markets
