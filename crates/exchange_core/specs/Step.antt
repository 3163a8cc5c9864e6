-- One step of the exchange: the reply to a command, and the state after it.
use Rattle.std.specs.Prelude.{ℕ, pos, length, take, List, ◌≡◌, ◌+◌, [], ◌∷◌, ◌++◌, Result, IfOk}
use Rattle.std.specs.Option.{option_map_or}
use Rattle.cash_ledger.specs.declared.entry.Entry.{Entry}
use Rattle.cash_ledger.specs.Entries.{balance_of, deposit_of, withdrawal_of}
use Rattle.cert_check.specs.declared.outcome.Outcome.{Outcome}
use Rattle.clearing.specs.Outcome.{outcome_of}
use Rattle.form.specs.declared.orders.Batch.{Batch}
use Rattle.frac.specs.declared.frac128.Frac128.{Frac128}
use Rattle.order_book.specs.declared.new_order.NewOrder.{NewOrder}
use Rattle.order_book.specs.Book as book
use Rattle.command_text.specs.declared.command.Command.{Command}
use Rattle.command_text.specs.declared.command.Command.TheVariants.{Open, Deposit, Withdraw, Market, Trade, Bundle, Cancel, Clear, Settle, Balance}
use Rattle.exchange_core.specs.declared.refusal.Refusal.{Refusal}
use Rattle.reply_print.specs.declared.replies.Reply.{Reply}
use Rattle.reply_print.specs.declared.replies.Reply.TheVariants as reply
use Rattle.exchange_core.specs.ExchangeState.{ExchangeState}
use Rattle.exchange_core.specs.Orders.{order_by, order_for}
use Rattle.exchange_core.specs.Payoffs.{payoff_entries}
use Rattle.exchange_core.specs.Positions.{positions_in}
use Rattle.exchange_core.specs.Premiums.{premium_entries}
use Rattle.exchange_core.specs.Refusals.{refusal_of}
use Rattle.exchange_core.specs.Reply.{refused_with}
use Rattle.exchange_core.specs.Reserves.{reserve_in}
use Rattle.settlement.specs.Positions.{outside, payouts_of}

-- a refusal leaves the state as it was
abbrev pub refusal_effect : ExchangeState → Refusal → Reply × ExchangeState
refusal_effect state refusal = (refused_with refusal, state)

-- ---- the effects of commands that are accepted
abbrev pub open_effect : ExchangeState → ℕ → Reply × ExchangeState
open_effect state account = (reply.Opened account, record state { accounts = state.accounts ++ account ∷ [] })

-- the state with an entry more
abbrev pub with_entry : ExchangeState → Entry → ExchangeState
with_entry state entry = record state { entries = state.entries ++ entry ∷ [] }

abbrev pub deposit_effect : ExchangeState → ℕ → ℕ → Reply × ExchangeState
deposit_effect state account amount =
    let next = with_entry state (deposit_of account amount) in
    (reply.Deposited account (balance_of account next.entries), next)

abbrev pub withdraw_effect : ExchangeState → ℕ → ℕ → Reply × ExchangeState
withdraw_effect state account amount =
    let next = with_entry state (withdrawal_of account amount) in
    (reply.Withdrawn account (balance_of account next.entries), next)

abbrev pub market_effect : ExchangeState → ℕ → ℕ → Reply × ExchangeState
market_effect state market underlyings =
    (reply.Listed market underlyings, record state { book = book.with_market state.book market underlyings })

-- the order is live, and so its account's reserve is greater where it buys
abbrev pub place_effect : ExchangeState → NewOrder → Reply × ExchangeState
place_effect state order = (reply.Placed (state.book.accepted + 1), record state { book = book.with_order state.book order })

abbrev pub cancel_effect : ExchangeState → ℕ → Reply × ExchangeState
cancel_effect state order = (reply.Cancelled order, record state { book = book.without_order state.book order })

-- the live orders of a market as a batch
abbrev pub batch_in : ExchangeState → ℕ → Batch
batch_in state market =
    option_map_or book.batch_of (book.market_of state.book market) (record { underlyings = 0; orders = [] })

-- a batch of the market is cleared with these fills of its live orders: their premiums move and
-- they are positions, and what is unfilled lapses
abbrev pub cleared_with : ExchangeState → ℕ → List Frac128 → ExchangeState
cleared_with state market fills =
    let batch = batch_in state market in
    let number = state.book.finished + 1 in
    record state {
      entries = state.entries ++ premium_entries number batch.orders fills;
      book = book.after_batch state.book market;
      positions = state.positions ++ positions_in market number batch.orders fills;
    }

-- the same, with the reply that tells this outcome
abbrev pub cleared_as : ExchangeState → ℕ → Outcome → Reply × ExchangeState
cleared_as state market outcome =
    (reply.Cleared (state.book.finished + 1) market (batch_in state market) outcome, cleared_with state market outcome.fills)

-- the batch has its outcome within the budget
abbrev pub clear_effect : ExchangeState → ℕ → ℕ → Reply × ExchangeState
clear_effect state market budget = cleared_as state market (outcome_of (batch_in state market) budget)

-- the market is settled for good at the prices: its live orders lapse, its positions are paid out
-- and taken out
abbrev pub settle_effect : ExchangeState → ℕ → List ℕ → Reply × ExchangeState
settle_effect state market prices =
    let payouts = payouts_of market prices state.positions in (
      reply.Settled market (length (book.live_of state.book market)) payouts,
      record state {
        entries = state.entries ++ payoff_entries payouts;
        book = book.after_close state.book market;
        positions = outside market state.positions;
      },
    )

abbrev pub balance_effect : ExchangeState → ℕ → Reply × ExchangeState
balance_effect state account =
    (reply.Balance account (balance_of account state.entries) (pos (reserve_in state account)), state)

abbrev pub effect : ExchangeState → Command → Reply × ExchangeState
effect state (Open account) = open_effect state account
effect state (Deposit account amount) = deposit_effect state account amount
effect state (Withdraw account amount) = withdraw_effect state account amount
effect state (Market market underlyings) = market_effect state market underlyings
effect state (Trade side account market kind strike price quantity count weights) =
    place_effect state (order_by side account market kind strike price quantity count weights)
effect state (Bundle side account market price quantity bundle) = place_effect state (order_for side account market price quantity bundle)
effect state (Cancel account order) = cancel_effect state order
effect state (Clear market budget) = clear_effect state market budget
effect state (Settle market count prices) = settle_effect state market (take count prices)
effect state (Balance account) = balance_effect state account

-- ---- the step
-- the reply to a command, and the state after it: the first refusal that it meets, or its effect
abbrev pub step : ExchangeState → Command → Reply × ExchangeState
step state command = option_map_or (refusal_effect state) (refusal_of state command) (effect state command)

-- what a call answers and leaves is this, unless it fails
abbrev pub Does : {E : Type 0} → Result Reply E → ExchangeState → Reply × ExchangeState → Type 0
Does result new wanted = IfOk result (λ reply. (reply, new) ≡ wanted)
