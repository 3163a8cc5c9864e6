-- Worked rows: what a step answers in a small exchange.
use Rattle.std.specs.Prelude.{ℕ, ℤ, pos, negsuc, ◌≡◌, List, [], ◌∷◌, map, false, None, Some}
use Rattle.cash_ledger.specs.declared.entry.Cause.TheVariants as cause
use Rattle.cash_ledger.specs.Entries.{balance_of}
use Rattle.form.specs.declared.orders.Side.{Side}
use Rattle.form.specs.declared.orders.Side.TheVariants.{Buy, Sell}
use Rattle.command_text.specs.declared.command.Command.{Command}
use Rattle.command_text.specs.declared.command.Command.TheVariants.{Open, Withdraw, Market, Trade, Cancel, Clear, Settle, Balance}
use Rattle.command_text.specs.declared.command.Kind.TheVariants.{Call}
use Rattle.exchange_core.specs.declared.refusal.Refusal.TheVariants.{NoAccount, AccountExists, NoMarket, Settled as SettledFor, MarketExists, WeightCount, Funds, NoOrder, NotOwner}
use Rattle.reply_print.specs.declared.replies.Reply.TheVariants.{Withdrawn, Cancelled, Settled}
use Rattle.reply_print.specs.declared.replies.Reply.TheVariants as reply
use Rattle.exchange_core.specs.ExchangeState.{ExchangeState}
use Rattle.exchange_core.specs.Refusals.{refusal_of}
use Rattle.exchange_core.specs.Step.{step}

-- accounts 1 and 2 are open, account 1 has 100, and market 1 is on one underlying
abbrev pub opened_market : ExchangeState
opened_market = record {
  accounts = 0 ∷ 1 ∷ 2 ∷ [];
  entries = record { account = 1; amount = pos 100; cause = cause.Deposit } ∷ [];
  book = record { markets = (1, record { underlyings = 1; settled = false; live = [] }) ∷ []; accepted = 0; finished = 0 };
  positions = [];
}

-- an order for one call with strike 10, with this many weights of 1
abbrev pub trade : Side → ℕ → ℕ → ℕ → ℕ → Command
trade side account market price count =
    Trade side account market Call (pos 10) price 1 count (pos 1 ∷ pos 1 ∷ pos 0 ∷ pos 0 ∷ pos 0 ∷ pos 0 ∷ pos 0 ∷ pos 0 ∷ [])

abbrev pub after : ExchangeState → Command → ExchangeState
after state command = (step state command).1

-- account 1 has bid 7
abbrev pub bid : ExchangeState
bid = after opened_market (trade Buy 1 1 7 1)

-- account 1 owes 3
abbrev pub in_debt : ExchangeState
in_debt = record opened_market { entries = record { account = 1; amount = negsuc 2; cause = cause.Payoff 1 } ∷ [] }

-- what is reserved for a live buy is not paid out, and is free again once the order is cancelled
abbrev pub ReserveIsKept : Type 0
ReserveIsKept =
    (refusal_of bid (Withdraw 1 94) ≡ Some Funds)
    × ((step bid (Balance 1)).0 ≡ reply.Balance 1 (pos 100) (pos 7))
    × ((step bid (Withdraw 1 93)).0 ≡ Withdrawn 1 (pos 7))
    × ((step (after bid (Withdraw 1 93)) (Cancel 1 1)).0 ≡ Cancelled 1)
    × ((step (after (after bid (Withdraw 1 93)) (Cancel 1 1)) (Withdraw 1 7)).0 ≡ Withdrawn 1 (pos 0))

-- each of these meets several refusals, and is told the first
abbrev pub RefusalsInOrder : Type 0
RefusalsInOrder =
    (refusal_of bid (trade Buy 9 9 1 1) ≡ Some NoMarket)
    × (refusal_of bid (trade Buy 9 1 1 2) ≡ Some WeightCount)
    × (refusal_of bid (trade Buy 9 1 1 1) ≡ Some NoAccount)
    × (refusal_of bid (trade Buy 1 1 94 1) ≡ Some Funds)
    × (refusal_of bid (trade Sell 1 1 94 1) ≡ None)
    -- a bid of 0 costs nothing, and is more than an account in debt has
    × (refusal_of in_debt (trade Buy 1 1 0 1) ≡ Some Funds)
    × (refusal_of bid (Open 1) ≡ Some AccountExists)
    × (refusal_of bid (Market 1 2) ≡ Some MarketExists)
    × (refusal_of bid (Market 2 8) ≡ None)
    × (refusal_of bid (Cancel 1 99) ≡ Some NoOrder)
    × (refusal_of bid (Cancel 2 1) ≡ Some NotOwner)
    × (refusal_of bid (Clear 9 1) ≡ Some NoMarket)

-- ---- a batch that is filled in parts
-- accounts 1 to 3 are open, account 1 has 100, and market 1 is on one underlying
abbrev pub three_traders : ExchangeState
three_traders = record opened_market { accounts = 0 ∷ 1 ∷ 2 ∷ 3 ∷ [] }

-- an order for one call with this strike on market 1
abbrev pub call_at : Side → ℕ → ℕ → ℕ → Command
call_at side account strike price =
    Trade side account 1 Call (pos strike) price 1 1 (pos 1 ∷ pos 0 ∷ pos 0 ∷ pos 0 ∷ pos 0 ∷ pos 0 ∷ pos 0 ∷ pos 0 ∷ [])

-- a call with strike 10 is bought at 6, and calls with strikes 5 and 12 are sold at 8 and 4
abbrev pub butterfly : ExchangeState
butterfly = after (after (after three_traders (call_at Buy 1 10 6)) (call_at Sell 2 5 8)) (call_at Sell 3 12 4)

abbrev pub balances : List ℕ → ExchangeState → List ℤ
balances accounts state = map (λ account. balance_of account state.entries) accounts

-- the buy is filled, and 2/7 and 5/7 of the sells: the buyer pays 6, and each seller gets 16/7 or
-- 20/7, rounded down
abbrev pub ButterflyIsPaid : Type 0
ButterflyIsPaid = balances (0 ∷ 1 ∷ 2 ∷ 3 ∷ []) (after butterfly (Clear 1 100)) ≡ pos 2 ∷ pos 94 ∷ pos 2 ∷ pos 2 ∷ []

-- ---- its settlement
-- one price and no more
abbrev pub at_price : ℕ → Command
at_price price = Settle 1 1 (price ∷ 0 ∷ 0 ∷ 0 ∷ 0 ∷ 0 ∷ 0 ∷ 0 ∷ [])

abbrev pub settled_butterfly : ExchangeState
settled_butterfly = after (after butterfly (Clear 1 100)) (at_price 11)

-- at 11 the buy gains 1, and the sells lose 12/7, which is rounded to 2, and nothing. Then the
-- market is settled for good
pub record ButterflyIsSettled : Type 0 where
  pub reply : (step (after butterfly (Clear 1 100)) (at_price 11)).0
      ≡ Settled 1 0 (
      record { batch = 1; order = 1; account = 1; side = Buy; amount = 1 }
      ∷ record { batch = 1; order = 2; account = 2; side = Sell; amount = 2 }
      ∷ record { batch = 1; order = 3; account = 3; side = Buy; amount = 0 } ∷ [])
  pub balances : balances (0 ∷ 1 ∷ 2 ∷ 3 ∷ []) settled_butterfly ≡ pos 3 ∷ pos 95 ∷ pos 0 ∷ pos 2 ∷ []
  pub positions : settled_butterfly.positions ≡ []
  pub settle_again : refusal_of settled_butterfly (at_price 0) ≡ Some SettledFor
  pub clear_again : refusal_of settled_butterfly (Clear 1 1) ≡ Some SettledFor
  pub bid_again : refusal_of settled_butterfly (call_at Buy 1 10 7) ≡ Some SettledFor
  -- of several refusals the first in order
  pub no_market : refusal_of butterfly (Settle 9 2 (0 ∷ 0 ∷ 0 ∷ 0 ∷ 0 ∷ 0 ∷ 0 ∷ 0 ∷ [])) ≡ Some NoMarket
  pub two_prices : refusal_of butterfly (Settle 1 2 (0 ∷ 0 ∷ 0 ∷ 0 ∷ 0 ∷ 0 ∷ 0 ∷ 0 ∷ [])) ≡ Some WeightCount
  pub settled_before_count : refusal_of settled_butterfly (Settle 1 2 (0 ∷ 0 ∷ 0 ∷ 0 ∷ 0 ∷ 0 ∷ 0 ∷ 0 ∷ [])) ≡ Some SettledFor

-- ---- a basket on two underlyings
-- accounts 1 to 3 are open, account 1 has 100, and market 1 is on two underlyings
abbrev pub on_two : ExchangeState
on_two = record three_traders {
  book = record { markets = (1, record { underlyings = 2; settled = false; live = [] }) ∷ []; accepted = 0; finished = 0 };
}

-- an order for one call with this strike on weights of the two
abbrev pub basket_at : Side → ℕ → ℕ → ℕ → ℤ → ℤ → Command
basket_at side account strike price first second =
    Trade side account 1 Call (pos strike) price 1 2 (first ∷ second ∷ pos 0 ∷ pos 0 ∷ pos 0 ∷ pos 0 ∷ pos 0 ∷ pos 0 ∷ [])

-- a call on the sum with strike 10 is bought at 6; one on the first with strike 4 is sold at 3, and
-- one on the second with strike 6 at 2
abbrev pub basket : ExchangeState
basket = after (after (after on_two (basket_at Buy 1 10 6 (pos 1) (pos 1))) (basket_at Sell 2 4 3 (pos 1) (pos 0))) (basket_at Sell 3 6 2 (pos 0) (pos 1))

-- all are filled, with 11 units: where the sum is above 10, both sells cover it
pub record BasketIsPaid : Type 0 where
  pub cleared : balances (0 ∷ 1 ∷ 2 ∷ 3 ∷ []) (after basket (Clear 1 11)) ≡ pos 1 ∷ pos 94 ∷ pos 3 ∷ pos 2 ∷ []
  -- with a unit less the run stops, and the match of each option by itself fills nothing
  pub one_short : balances (0 ∷ 1 ∷ 2 ∷ 3 ∷ []) (after basket (Clear 1 10)) ≡ pos 0 ∷ pos 100 ∷ pos 0 ∷ pos 0 ∷ []
