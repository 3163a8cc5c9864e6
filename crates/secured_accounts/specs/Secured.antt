-- The secured accounts, what an account has and needs, and what is kept from the exchange.
use Rattle.std.specs.Prelude.{ℕ, ◌≡◌, ◌++◌, Bool, not, ◌&&◌, nat_eq, List, [], ◌∷◌, length, map, filter, is_none, Option, Some, None, if◌then◌else◌}
use Rattle.std.specs.List.{list_any}
use Rattle.std.specs.Option.{option_map_or}
use Rattle.cash_ledger.specs.Entries.{balance_of}
use Rattle.lists.specs.Refusals.{first_of}
use Rattle.order_book.specs.declared.new_order.NewOrder.{NewOrder}
use Rattle.order_book.specs.Within.{IsNewOrderWithin}
use Rattle.command_text.specs.declared.command.Command.{Command}
use Rattle.command_text.specs.declared.command.Command.TheVariants.{Open, Deposit, Withdraw, Market, Trade, Bundle, Cancel, Clear, Settle, Balance}
use Rattle.exchange_core.specs.ExchangeState.{ExchangeState}
use Rattle.exchange_core.specs.Held.{market_numbers, orders_of, positions_of, underlyings_in}
use Rattle.exchange_core.specs.Refusals.{place_refusals, refusal_of}
use Rattle.exchange_core.specs.Step.{effect, place_effect}
use Rattle.account_need.specs.Account.{Need, Numbered, can_pay, need_of, portfolios}
use Rattle.account_need.specs.Exposure.{Portfolio}
use Rattle.secured_accounts.specs.declared.accounts.ToldNeed.{ToldNeed}

-- ---- the secured accounts
abbrev pub is_secured : List ℕ → ℕ → Bool
is_secured secured account = list_any (λ other. nat_eq other account) secured

-- an account more is secured, once
abbrev pub with_secured : List ℕ → ℕ → List ℕ
with_secured secured account = if is_secured secured account then secured else secured ++ account ∷ []

-- ---- what an account has
-- its positions and its live orders in a market
abbrev pub part_in : ExchangeState → ℕ → ℕ → Portfolio
part_in state account market = record {
  underlyings = underlyings_in state.book market;
  positions = positions_of account market state.positions;
  live = orders_of account market state.book;
}

abbrev pub numbered_in : ExchangeState → ℕ → ℕ → Numbered
numbered_in state account market = (market, part_in state account market)

abbrev pub has_some : Numbered → Bool
has_some m = not (nat_eq (length m.1.positions) 0 && nat_eq (length m.1.live) 0)

-- the markets in which it has positions or live orders, by rising number; no account has any in a
-- market that is settled
abbrev pub account_of : ExchangeState → ℕ → List Numbered
account_of state account = filter has_some (map (numbered_in state account) (market_numbers state.book))

-- ---- what it needs
abbrev pub need_in : ExchangeState → ℕ → Need
need_in state account = need_of (portfolios (account_of state account))

-- its balance is enough
abbrev pub is_enough : ExchangeState → ℕ → Bool
is_enough state account = can_pay (balance_of account state.entries) (need_in state account)

-- the need, where its balance is not enough
abbrev pub need_above : ExchangeState → ℕ → Option Need
need_above state account = if is_enough state account then None else Some (need_in state account)

-- what is told of it
abbrev pub told_need : List ℕ → ExchangeState → ℕ → ToldNeed
told_need secured state account = record {
  balance = balance_of account state.entries;
  need = need_in state account;
  secured = is_secured secured account;
}

-- ---- what is kept from the exchange
-- the account that may come to need more by a command, or to have less
abbrev pub risked_by : Command → Option ℕ
risked_by (Open account) = None
risked_by (Deposit account amount) = None
risked_by (Withdraw account amount) = Some account
risked_by (Market market underlyings) = None
risked_by (Trade side account market kind strike price quantity count weights) = Some account
risked_by (Bundle side account market price quantity bundle) = Some account
risked_by (Cancel account order) = None
risked_by (Clear market budget) = None
risked_by (Settle market count prices) = None
risked_by (Balance account) = None

-- where nothing else refuses the command of a secured account: its need once the command is carried
-- out, if its balance is not enough then
abbrev pub uncovered_by : List ℕ → ExchangeState → Command → ℕ → Option Need
uncovered_by secured state command account =
    if is_secured secured account && is_none (refusal_of state command) then need_above (effect state command).1 account else None

abbrev pub uncovered : List ℕ → ExchangeState → Command → Option Need
uncovered secured state command = option_map_or (uncovered_by secured state command) (risked_by command) None

-- ---- an order more
-- the exchange once an order is placed
abbrev pub with_placed : ExchangeState → Option NewOrder → ExchangeState
with_placed state order = option_map_or (λ o. (place_effect state o).1) order state

-- an order of the account that the exchange accepts
pub record IsAccepted (state : ExchangeState) (account : ℕ) (order : NewOrder) : Type 0 where
  pub own : order.account ≡ account
  pub within : IsNewOrderWithin order
  pub accepted : first_of (place_refusals state order) ≡ None

-- its need then, as `uncovered` has it of the command that places it
abbrev pub uncovered_order : List ℕ → ExchangeState → NewOrder → Option Need
uncovered_order secured state order =
    if is_secured secured order.account && is_none (first_of (place_refusals state order)) then need_above (place_effect state order).1 order.account
    else None
