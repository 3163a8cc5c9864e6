-- What is promised of secured accounts.
use Rattle.std.specs.Prelude.{ℕ, ◌≡◌, ◌≤◌, ⊤, true, List, [], ◌∷◌, length, map, is_some, None, pos, ◌≤ℤ◌, if◌then◌else◌}
use Rattle.cash_ledger.specs.Entries.{balance_of}
use Rattle.cash_ledger.specs.Ledger.{is_open}
use Rattle.clearing_model.specs.Certificate.{AreFractionFills}
use Rattle.command_text.specs.declared.command.Command.{Command}
use Rattle.command_text.specs.declared.command.Command.TheVariants.{Open, Deposit, Withdraw, Market, Trade, Bundle, Cancel, Clear, Settle, Balance}
use Rattle.command_text.specs.Within.{IsAccount, IsWithin}
use Rattle.frac.specs.declared.frac128.Frac128.{Frac128}
use Rattle.frac.specs.Value.{fraction_of}
use Rattle.lists.specs.Refusals.{first_of}
use Rattle.order_book.specs.Refusals.{batch_refusals}
use Rattle.exchange_core.specs.ExchangeState.{ExchangeState}
use Rattle.exchange_core.specs.Kept.{IsKept}
use Rattle.exchange_core.specs.Refusals.{by_book}
use Rattle.exchange_core.specs.Step.{batch_in, cleared_with, step}
use Rattle.account_need.specs.Account.{portfolios}
use Rattle.account_need.specs.Exposure.{IsSecured}
use Rattle.secured_accounts.specs.Refusals.{after_securing}
use Rattle.secured_accounts.specs.Secured.{account_of, is_enough, is_secured, uncovered}

-- an exchange, and its secured accounts
pub record Guarded : Type 0 where
  pub exchange : ExchangeState
  pub secured : List ℕ

abbrev pub guarded : ExchangeState → List ℕ → Guarded
guarded exchange secured = record { exchange = exchange; secured = secured }

-- what may come: a command; a clear of a market with fills that others found; an account to be
-- secured
pub data Event : Type 0 where
  Asked : Command → Event
  Charged : ℕ → List Frac128 → Event
  Securing : ℕ → Event

-- ---- what each does
-- a command is carried out, unless it would leave a secured account with too little
abbrev pub after_command : Guarded → Command → Guarded
after_command state command =
    if is_some (uncovered state.secured state.exchange command) then state else guarded (step state.exchange command).1 state.secured

abbrev pub after_event : Guarded → Event → Guarded
after_event state (Asked command) = after_command state command
after_event state (Charged market fills) = guarded (cleared_with state.exchange market fills) state.secured
after_event state (Securing account) = guarded state.exchange (after_securing state.secured state.exchange account)

abbrev pub after_events : Guarded → List Event → Guarded
after_events state [] = state
after_events state (event ∷ events) = after_events (after_event state event) events

-- a settlement has as many prices as it says, as each that is read has
abbrev pub HasPrices : Command → Type 0
HasPrices (Open account) = ⊤
HasPrices (Deposit account amount) = ⊤
HasPrices (Withdraw account amount) = ⊤
HasPrices (Market market underlyings) = ⊤
HasPrices (Trade side account market kind strike price quantity count weights) = ⊤
HasPrices (Bundle side account market price quantity bundle) = ⊤
HasPrices (Cancel account order) = ⊤
HasPrices (Clear market budget) = ⊤
HasPrices (Settle market count prices) = count ≤ length prices
HasPrices (Balance account) = ⊤

-- the numbers of a command are within the limits; fills are those of a market that may be cleared
abbrev pub MayCome : Guarded → Event → Type 0
MayCome state (Asked command) = IsWithin command × HasPrices command
MayCome state (Charged market fills) =
    (first_of (by_book (batch_refusals state.exchange.book market)) ≡ None)
    × AreFractionFills (batch_in state.exchange market).orders (map fraction_of fills)
MayCome state (Securing account) = IsAccount account

-- events as they may come
abbrev pub AreComing : Guarded → List Event → Type 0
AreComing state [] = ⊤
AreComing state (event ∷ events) = MayCome state event × AreComing (after_event state event) events

-- ---- the promises
-- the account is a trader's, and its balance is at or above its true need
pub record IsSafe (exchange : ExchangeState) (account : ℕ) : Type 0 where
  pub trader : 1 ≤ account
  pub above : IsSecured (portfolios (account_of exchange account)) (balance_of account exchange.entries)

abbrev pub AreSafe : Guarded → Type 0
AreSafe state = (account : ℕ) → is_secured state.secured account ≡ true → IsSafe state.exchange account

-- where the need that is told of an account is covered by its balance, it is
abbrev pub ToldIsEnough : Type 0
ToldIsEnough =
    (exchange : ExchangeState) (account : ℕ) → IsKept exchange → is_enough exchange account ≡ true
    → IsSecured (portfolios (account_of exchange account)) (balance_of account exchange.entries)

-- what holds after any such events
abbrev pub Always : (Guarded → Type 0) → Type 0
Always Holds =
    (state : Guarded) (events : List Event) → IsKept state.exchange → AreSafe state → AreComing state events
    → Holds (after_events state events)

-- the balance of each secured account stays at or above its true need
abbrev pub SecuredStaySafe : Type 0
SecuredStaySafe = Always AreSafe

-- and so it is not below 0
abbrev pub CanPay : Guarded → ℕ → Type 0
CanPay state account = pos 0 ≤ℤ balance_of account state.exchange.entries

abbrev pub SecuredCanPay : Type 0
SecuredCanPay = Always (λ state. (account : ℕ) → is_secured state.secured account ≡ true → CanPay state account)

-- where the open accounts of all traders are secured, the balance of none is
abbrev pub AllSecured : Guarded → Type 0
AllSecured state =
    (account : ℕ) → 1 ≤ account → is_open state.exchange.accounts account ≡ true → is_secured state.secured account ≡ true

abbrev pub TradersCanPay : Type 0
TradersCanPay =
    Always (λ state. AllSecured state → (account : ℕ) → 1 ≤ account → is_open state.exchange.accounts account ≡ true → CanPay state account)
