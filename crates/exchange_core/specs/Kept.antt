-- What an exchange keeps between two commands.
use Rattle.std.specs.Prelude.{ℕ, ◌≡◌, ◌+◌, ◌≤◌, ◌<ℤ◌, true, List, Option, None, Some, pos, if◌then◌else◌, nat_eq}
use Rattle.std.specs.List.{All, zip}
use Rattle.std.specs.Map.{lookup}
use Rattle.std.specs.Option.{option_map_or}
use Rattle.cash_ledger.specs.Ledger.{LedgerState, is_open, reserved_of}
use Rattle.form.specs.declared.limits.TheConstants.{MAX_PRICE, MAX_QUANTITY}
use Rattle.form.specs.declared.legs.Leg.{Leg}
use Rattle.form.specs.declared.orders.Order.{Order}
use Rattle.form.specs.Limits.{IsListed}
use Rattle.form.specs.Payoff.{option_of, legs_in, IsOnCount}
use Rattle.frac.specs.declared.frac128.Frac128.{Frac128}
use Rattle.frac.specs.Value.{fraction_of}
use Rattle.order_book.specs.Book.{BookState}
use Rattle.order_book.specs.Kept.{IsBookKept}
use Rattle.order_book.specs.Markets.{MarketState, Markets, live_orders}
use Rattle.limits.specs.declared.TheConstants.{MAX_GAIN}
use Rattle.settlement.specs.declared.position.PaidOut.{PaidOut}
use Rattle.settlement.specs.declared.position.Position.{Position}
use Rattle.settlement.specs.Payout.{IsHolding}
use Rattle.settlement.specs.Positions.{IsHeldPosition}
use Rattle.exchange_core.specs.ExchangeState.{ExchangeState}
use Rattle.exchange_core.specs.Reserves.{reserve_of}

-- an order is of an open account
abbrev pub IsOfOpen : List ℕ → Order → Type 0
IsOfOpen accounts order = is_open accounts order.account ≡ true

-- the underlyings of a market that is not settled
abbrev pub on_if_trading : MarketState → Option ℕ
on_if_trading market = if market.settled then None else Some market.underlyings

-- the underlyings of a market that is there and not settled
abbrev pub trading_on : Markets → ℕ → Option ℕ
trading_on markets market = option_map_or on_if_trading (lookup (nat_eq market) markets) None

-- a position of an open account in a market that is there and not settled: its options are within
-- the limits and on the market's underlyings, and its fill is above 0 and counts at most 1,000,000
-- options
pub record IsPositionKept (opened : List ℕ) (markets : Markets) (position : Position) : Type 0 where
  pub account : is_open opened position.account ≡ true
  pub underlyings : ℕ
  pub trading : trading_on markets position.market ≡ Some underlyings
  pub forms : IsOnCount (underlyings + 1) position.bundle
  pub options : All (λ (leg : Leg). IsListed (option_of leg.form)) (legs_in position.bundle)
  pub filled : pos 0 <ℤ (fraction_of position.fill).numerator
  pub held : IsHeldPosition position

abbrev pub ArePositionsKept : List ℕ → Markets → List Position → Type 0
ArePositionsKept accounts markets positions = All (IsPositionKept accounts markets) positions

-- the house is open, each live order is of an open account, and the book is kept: each live order
-- is within the limits and in a market on as many underlyings as its options, which is not settled
pub record AreOrdersKept (opened : List ℕ) (state : BookState) : Type 0 where
  pub house : is_open opened 0 ≡ true
  pub accounts : All (IsOfOpen opened) (live_orders state.markets)
  pub book : IsBookKept state

-- the same of an exchange, and its positions are kept
pub record IsKept (state : ExchangeState) : Type 0 where
  pub orders : AreOrdersKept state.accounts state.book
  pub positions : ArePositionsKept state.accounts state.book.markets state.positions

-- orders are kept by ledger and book together, and what is reserved of each account is the sum over
-- its live buys
pub record AreJoined (ledger : LedgerState) (book : BookState) : Type 0 where
  pub kept : AreOrdersKept ledger.accounts book
  pub reserves : (q : ℕ) → reserved_of ledger q ≡ reserve_of q (live_orders book.markets)

-- each order may hold its fill: it is not below 0, and counts at most 1,000,000 options
abbrev pub AreHeld : List Order → List Frac128 → Type 0
AreHeld orders fills = All (λ (p : Order × Frac128). IsHolding p.0.bundle (fraction_of p.1)) (zip orders fills)

-- a payout that can be moved: its account is open, and its amount is within the limits
pub record IsPaidOut (accounts : List ℕ) (paid : PaidOut) : Type 0 where
  pub account : is_open accounts paid.account ≡ true
  pub amount : paid.amount ≤ MAX_GAIN

-- an order whose premium can be moved: its account is open, and its price and quantity are within
-- the limits
pub record IsPayable (accounts : List ℕ) (order : Order) : Type 0 where
  pub account : is_open accounts order.account ≡ true
  pub price : order.price ≤ MAX_PRICE
  pub quantity : order.quantity ≤ MAX_QUANTITY
