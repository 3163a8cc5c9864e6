-- An account that is not open has nothing, whatever lines come: so it may be secured as it is opened.
use Rattle.std.proofs.Common.{◌≡◌, ◌≤◌, ℕ, Bool, true, false, ⊎_elim, is_none, is_some, nat_eq, Option, Some, None, if◌then◌else◌, refl, sym, ap, subst}
use Rattle.std.specs.Option.{option_map_or}
use Rattle.std.proofs.lemmas.Bool.{eqb-true}
use Rattle.account_need.specs.Account.{Need}
use Rattle.cash_ledger.specs.Entries.{balance_of}
use Rattle.cash_ledger.specs.Ledger.{is_open}
use Rattle.command_text.specs.declared.command.Command.{Command}
use Rattle.command_text.specs.declared.command.Command.TheVariants.{Open, Deposit, Withdraw, Market, Trade, Bundle, Cancel, Clear, Settle, Balance}
use Rattle.command_text.specs.Within.{IsWithin}
use Rattle.exchange_core.specs.declared.refusal.Refusal.{Refusal}
use Rattle.exchange_core.specs.ExchangeState.{ExchangeState}
use Rattle.exchange_core.specs.Kept.{IsKept}
use Rattle.exchange_core.specs.Orders.{order_by, order_for}
use Rattle.exchange_core.specs.Refusals.{refusal_of}
use Rattle.exchange_core.specs.Step.{effect, refusal_effect, step}
use Rattle.exchange_core.proofs.LiveAccounts.{any-push}
use Rattle.exchange_lines.specs.LineSteps.{InputLine}
use Rattle.proposal_lines.specs.Laws.{IsSound}
use Rattle.secured_accounts.specs.Laws.{Asked, Charged, Event, Guarded, HasPrices, IsSafe, MayCome, Securing, after_event, guarded}
use Rattle.secured_accounts.specs.Secured.{risked_by, uncovered}
use Rattle.secured_accounts.proofs.AllMarkets.{for_all, for_own}
use Rattle.secured_accounts.proofs.Batches.{cleared}
use Rattle.secured_accounts.proofs.Ruled.{harms}
use Rattle.secured_accounts.proofs.StayingSafe.{effect_keeps}
use Rattle.secured_accounts.proofs.Told.{open_order, open_withdrawal}
use Rattle.secured_lines.specs.Laws.{guarded_in}
use Rattle.secured_lines.specs.Output.{secured_line}
use Rattle.secured_lines.specs.SecuredState.{SecuredState, exchange_in}
use Rattle.secured_lines.proofs.Moves.{IsEvent, line_comes}

-- each account that is not open is safe
abbrev pub UnopenedAreSafe : ExchangeState → Type 0
UnopenedAreSafe exchange = (account : ℕ) → 1 ≤ account → is_open exchange.accounts account ≡ false → IsSafe exchange account

-- ---- a command that is accepted harms no such account
module _ (account : ℕ) (state : ExchangeState) (closed : is_open state.accounts account ≡ false) where
  apart : (other : ℕ) → is_open state.accounts other ≡ true → nat_eq other account ≡ false
  apart other opened = by (nat_eq other account) refl
    where
      not_both : is_open state.accounts account ≡ true → ⊥
      not_both opened = cc

      by : (b : Bool) → nat_eq other account ≡ b → b ≡ false
      by true at = absurd (not_both (subst (λ (n : ℕ). is_open state.accounts n ≡ true) (eqb-true other account at) opened))
      by false at = refl

  closed_harmless : (command : Command) → refusal_of state command ≡ None → harms account (risked_by command) ≡ false
  closed_harmless (Open other) none = refl
  closed_harmless (Deposit other amount) none = refl
  closed_harmless (Withdraw other amount) none = apart other (open_withdrawal state other amount true (ap is_none none))
  closed_harmless (Market market underlyings) none = refl
  closed_harmless (Trade side other market kind strike price quantity count weights) none =
      apart other (open_order state (order_by side other market kind strike price quantity count weights) none)
  closed_harmless (Bundle side other market price quantity bundle) none = apart other (open_order state (order_for side other market price quantity bundle) none)
  closed_harmless (Cancel other order) none = refl
  closed_harmless (Clear market budget) none = refl
  closed_harmless (Settle market count prices) none = refl
  closed_harmless (Balance other) none = refl

  module _ (kept : IsKept state) (safe : IsSafe state account) where
    step_safe : (command : Command) → IsWithin command → HasPrices command → IsSafe (step state command).1 account
    step_safe command within prices = by (refusal_of state command) refl
      where
        by : (refused : Option Refusal) → refusal_of state command ≡ refused → IsSafe (option_map_or (refusal_effect state) refused (effect state command)).1 account
        by (Some refusal) is = safe
        by None none =
            let after = (effect state command).1 in
            record {
              trader = safe.trader;
              above = for_own after account (balance_of account after.entries)
                  (effect_keeps account safe.trader state kept command within prices none (closed_harmless command none)
                  (for_all state account (balance_of account state.entries) kept.orders.book.distinct safe.above));
            }

-- ---- whatever comes
module _ (state : Guarded) (kept : IsKept state.exchange) where
  event_safe : (account : ℕ) → is_open state.exchange.accounts account ≡ false → IsSafe state.exchange account → (event : Event) → MayCome state event
      → IsSafe (after_event state event).exchange account
  event_safe account closed safe (Asked command) may = by (uncovered state.secured state.exchange command)
    where
      by : (need : Option Need) → IsSafe (if is_some need then state else guarded (step state.exchange command).1 state.secured).exchange account
      by (Some need) = safe
      by None = step_safe account state.exchange closed kept safe command may.0 may.1
  event_safe account closed safe (Charged market fills) may = record {
    trader = safe.trader;
    above = for_own (after_event state (Charged market fills)).exchange account (balance_of account (after_event state (Charged market fills)).exchange.entries)
        (cleared account safe.trader state.exchange kept market fills may.0 may.1
        (for_all state.exchange account (balance_of account state.exchange.entries) kept.orders.book.distinct safe.above));
  }
  event_safe account closed safe (Securing other) may = safe

-- ---- accounts stay open
module _ (account : ℕ) where
  effect_open : (state : ExchangeState) → is_open state.accounts account ≡ true → (command : Command) → is_open (effect state command).1.accounts account ≡ true
  effect_open state is (Open other) = any-push account state.accounts other is
  effect_open state is (Deposit other amount) = is
  effect_open state is (Withdraw other amount) = is
  effect_open state is (Market market underlyings) = is
  effect_open state is (Trade side other market kind strike price quantity count weights) = is
  effect_open state is (Bundle side other market price quantity bundle) = is
  effect_open state is (Cancel other order) = is
  effect_open state is (Clear market budget) = is
  effect_open state is (Settle market count prices) = is
  effect_open state is (Balance other) = is

  step_open : (state : ExchangeState) → is_open state.accounts account ≡ true → (command : Command) → is_open (step state command).1.accounts account ≡ true
  step_open state is command = by (refusal_of state command)
    where
      by : (refused : Option Refusal) → is_open (option_map_or (refusal_effect state) refused (effect state command)).1.accounts account ≡ true
      by None = effect_open state is command
      by (Some refusal) = is

  event_open : (state : Guarded) → is_open state.exchange.accounts account ≡ true → (event : Event) → is_open (after_event state event).exchange.accounts account ≡ true
  event_open state is (Asked command) = by (uncovered state.secured state.exchange command)
    where
      by : (need : Option Need) → is_open (if is_some need then state else guarded (step state.exchange command).1 state.secured).exchange.accounts account ≡ true
      by (Some need) = is
      by None = step_open state.exchange is command
  event_open state is (Charged market fills) = is
  event_open state is (Securing other) = is

-- ---- a line
module _ (state : SecuredState) (line : InputLine) (sound : IsSound state.serving.proposing) where
  abbrev after : SecuredState
  after = (secured_line line.number state line.bytes).1

  -- one that is not open before it is safe behind it
  pub line_safe : (account : ℕ) → is_open (exchange_in state).accounts account ≡ false → IsSafe (exchange_in state) account → IsSafe (exchange_in after) account
  line_safe account closed safe =
      ⊎_elim (λ (same : guarded_in after ≡ guarded_in state). subst (λ (g : Guarded). IsSafe g.exchange account) (sym same) safe)
      (λ (one : IsEvent state line sound after). subst (λ (g : Guarded). IsSafe g.exchange account) (sym one.does)
      (event_safe (guarded_in state) sound.kept account closed safe one.event one.may)) (line_comes state line sound)

  pub line_open : (account : ℕ) → is_open (exchange_in state).accounts account ≡ true → is_open (exchange_in after).accounts account ≡ true
  line_open account is =
      ⊎_elim (λ (same : guarded_in after ≡ guarded_in state). subst (λ (g : Guarded). is_open g.exchange.accounts account ≡ true) (sym same) is)
      (λ (one : IsEvent state line sound after). subst (λ (g : Guarded). is_open g.exchange.accounts account ≡ true) (sym one.does)
      (event_open account (guarded_in state) is one.event)) (line_comes state line sound)

  pub unopened_stay : UnopenedAreSafe (exchange_in state) → UnopenedAreSafe (exchange_in after)
  unopened_stay all account some closed = by (is_open (exchange_in state).accounts account) refl
    where
      not_both : is_open (exchange_in after).accounts account ≡ true → ⊥
      not_both opened = cc

      by : (opened : Bool) → is_open (exchange_in state).accounts account ≡ opened → IsSafe (exchange_in after) account
      by true is = absurd (not_both (line_open account is))
      by false is = line_safe account is (all account some is)
