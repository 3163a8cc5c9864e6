-- The positions and the live orders that an account has in a market, and its markets.
use Rattle.std.specs.Prelude.{ℕ, Bool, ◌&&◌, nat_eq, List, [], filter, fold, if◌then◌else◌}
use Rattle.std.specs.Map.{keys_of}
use Rattle.std.specs.Option.{option_map_or}
use Rattle.std.specs.Ordering.{nat_cmp}
use Rattle.std.specs.BTreeSet.{insert_key}
use Rattle.form.specs.declared.orders.Order.{Order}
use Rattle.order_book.specs.Book.{BookState, info_in, live_of}
use Rattle.order_book.specs.declared.market.MarketInfo.{MarketInfo}
use Rattle.settlement.specs.declared.position.Position.{Position}

abbrev pub is_held_by : ℕ → ℕ → Position → Bool
is_held_by account market position = nat_eq position.account account && nat_eq position.market market

-- in the order in which they were added
abbrev pub positions_of : ℕ → ℕ → List Position → List Position
positions_of account market positions = filter (is_held_by account market) positions

-- the market numbers so far, and that of a position of the account at its place in their order,
-- unless it is there
abbrev pub with_market : ℕ → List ℕ → Position → List ℕ
with_market account markets position = if nat_eq position.account account then insert_key nat_cmp markets position.market else markets

-- the markets in which the account has positions, each once and in rising number
abbrev pub markets_of : ℕ → List Position → List ℕ
markets_of account positions = fold (with_market account) [] positions

-- ---- live orders
abbrev pub is_order_of : ℕ → Order → Bool
is_order_of account order = nat_eq order.account account

-- in rising number
abbrev pub orders_of : ℕ → ℕ → BookState → List Order
orders_of account market book = filter (is_order_of account) (live_of book market)

-- ---- markets
-- the underlyings of a market; 1 where there is no such market, in which no account has anything
abbrev pub underlyings_in : BookState → ℕ → ℕ
underlyings_in book market = option_map_or (λ (info : MarketInfo). info.underlyings) (info_in book market) 1

-- the numbers of all markets, in rising order
abbrev pub market_numbers : BookState → List ℕ
market_numbers book = fold (insert_key nat_cmp) [] (keys_of book.markets)
