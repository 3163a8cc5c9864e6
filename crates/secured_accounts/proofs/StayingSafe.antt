-- The balance of each secured account stays at or above its true need.
use Rattle.std.proofs.Common.{◌≡◌, ℕ, ◌≤◌, Bool, true, false, [], ◌∷◌, is_some, ⊎_elim, Option, Some, None, if◌then◌else◌, refl, subst}
use Rattle.std.specs.Option.{option_map_or}
use Rattle.arithmetic.proofs.Tests.{nat_eq-turned}
use Rattle.cash_ledger.specs.Entries.{balance_of}
use Rattle.clearing.specs.Outcome.{outcome_of}
use Rattle.clearing.proofs.Outcomes.{outcomes_are_within}
use Rattle.lists.specs.Refusals.{first_of}
use Rattle.command_text.specs.declared.command.Command.{Command}
use Rattle.command_text.specs.declared.command.Command.TheVariants.{Open, Deposit, Withdraw, Market, Trade, Bundle, Cancel, Clear, Settle, Balance}
use Rattle.command_text.specs.Within.{IsWithin}
use Rattle.exchange_core.specs.declared.refusal.Refusal.{Refusal}
use Rattle.exchange_core.specs.ExchangeState.{ExchangeState}
use Rattle.exchange_core.specs.Kept.{IsKept}
use Rattle.exchange_core.specs.Orders.{order_by, order_for}
use Rattle.exchange_core.specs.Refusals.{refusal_of}
use Rattle.exchange_core.specs.Step.{batch_in, effect, refusal_effect, step}
use Rattle.exchange_core.proofs.Covered.{batch_is_within}
use Rattle.exchange_core.proofs.Keeping.{clears_keep, step_keeps}
use Rattle.account_need.specs.Account.{Need}
use Rattle.secured_accounts.specs.declared.refusal.SecuringRefusal.{SecuringRefusal}
use Rattle.secured_accounts.specs.Laws.{AreSafe, Asked, Charged, Event, Guarded, HasPrices, IsSafe, MayCome, SecuredStaySafe, Securing, after_event, guarded}
use Rattle.secured_accounts.specs.Refusals.{secure_refusals}
use Rattle.secured_accounts.specs.Secured.{is_enough, is_secured, risked_by, uncovered, with_secured}
use Rattle.secured_accounts.proofs.AllMarkets.{for_all, for_own}
use Rattle.secured_accounts.proofs.Batches.{cleared, settled}
use Rattle.secured_accounts.proofs.Effects.{IsCovered, cancelled, deposited, listed, placed, withdrawn}
use Rattle.secured_accounts.proofs.ToldNeeds.{told_is_enough}
use Rattle.secured_accounts.proofs.Ruled.{enough_after, harms, secured_enough, secured_or_new}

-- ---- the effect of a command that could not harm the account
module _ (account : ℕ) (some : 1 ≤ account) (state : ExchangeState) (kept : IsKept state) where
  pub effect_keeps : (command : Command) → IsWithin command → HasPrices command → refusal_of state command ≡ None → harms account (risked_by command) ≡ false
      → IsCovered account state → IsCovered account (effect state command).1
  effect_keeps (Open other) within prices none harmless s = s
  effect_keeps (Deposit other amount) within prices none harmless s = deposited account state other amount s
  effect_keeps (Withdraw other amount) within prices none harmless s = withdrawn account state other amount (nat_eq-turned other account false harmless) s
  effect_keeps (Market market underlyings) within prices none harmless s = listed account state kept market underlyings none s
  effect_keeps (Trade side other market kind strike price quantity count weights) within prices none harmless s =
      placed account state kept (order_by side other market kind strike price quantity count weights) none harmless s
  effect_keeps (Bundle side other market price quantity bundle) within prices none harmless s =
      placed account state kept (order_for side other market price quantity bundle) none harmless s
  effect_keeps (Cancel other order) within prices none harmless s = cancelled account state kept order s
  effect_keeps (Clear market budget) within prices none harmless s =
      cleared account some state kept market (outcome_of (batch_in state market) budget).fills none
      (outcomes_are_within (batch_in state market) budget (batch_is_within state kept market none)) s
  effect_keeps (Settle market count prices) within enough none harmless s = settled account some state kept market count prices none enough within.2 s
  effect_keeps (Balance other) within prices none harmless s = s

-- ---- whatever is asked
module _ (state : Guarded) (kept : IsKept state.exchange) where
  -- an account that is secured, once a command is accepted
  accepted : (account : ℕ) (command : Command) → is_secured state.secured account ≡ true → IsSafe state.exchange account → IsWithin command → HasPrices command → uncovered state.secured state.exchange command ≡ None
      → refusal_of state.exchange command ≡ None → IsKept (effect state.exchange command).1 → IsSafe (effect state.exchange command).1 account
  accepted account command own safe within prices through none keeps = by (harms account (risked_by command)) refl
    where
      by : (b : Bool) → harms account (risked_by command) ≡ b → IsSafe (effect state.exchange command).1 account
      by true harmed = record {
        trader = safe.trader;
        above = told_is_enough (effect state.exchange command).1 account keeps (enough_after state.secured state.exchange command account own none (risked_by command) through harmed);
      }
      by false harmless = record {
        trader = safe.trader;
        above = for_own (effect state.exchange command).1 account (balance_of account (effect state.exchange command).1.entries)
            (effect_keeps account safe.trader state.exchange kept command within prices none harmless
            (for_all state.exchange account (balance_of account state.exchange.entries) kept.orders.book.distinct safe.above));
      }

  -- ---- what comes
  record Stays (after : Guarded) : Type 0 where
    safe : AreSafe after
    keeps : IsKept after.exchange

  unchanged : AreSafe state → Stays state
  unchanged safe = record { safe = safe; keeps = kept }

  -- a command that is let through, whether it is accepted or not
  stepped : (command : Command) → MayCome state (Asked command) → uncovered state.secured state.exchange command ≡ None → AreSafe state
      → (refused : Option Refusal) → refusal_of state.exchange command ≡ refused
      → IsKept (option_map_or (refusal_effect state.exchange) refused (effect state.exchange command)).1
      → Stays (guarded (option_map_or (refusal_effect state.exchange) refused (effect state.exchange command)).1 state.secured)
  stepped command may through safe None none keeps = record {
    safe = λ account own. accepted account command own (safe account own) may.0 may.1 through none keeps;
    keeps = keeps;
  }
  stepped command may through safe (Some refusal) told keeps = unchanged safe

  asked : (command : Command) → MayCome state (Asked command) → AreSafe state
      → (need : Option Need) → uncovered state.secured state.exchange command ≡ need
      → Stays (if is_some need then state else guarded (step state.exchange command).1 state.secured)
  asked command may safe (Some need) told = unchanged safe
  asked command may safe None through =
      stepped command may through safe (refusal_of state.exchange command) refl (step_keeps state.exchange command kept may.0)

  stays : (e : Event) → MayCome state e → AreSafe state → Stays (after_event state e)
  stays (Asked command) may safe = asked command may safe (uncovered state.secured state.exchange command) refl
  stays (Charged market fills) may safe = record {
    safe = λ account own.
        let before = safe account own in
        record {
          trader = before.trader;
          above = for_own (after_event state (Charged market fills)).exchange account (balance_of account (after_event state (Charged market fills)).exchange.entries)
              (cleared account before.trader state.exchange kept market fills may.0 may.1
              (for_all state.exchange account (balance_of account state.exchange.entries) kept.orders.book.distinct before.above));
        };
    keeps = clears_keep state.exchange market fills kept may.0 may.1;
  }
  stays (Securing new) may safe = by (first_of (secure_refusals state.exchange new)) refl
    where
      by : (refused : Option SecuringRefusal) → first_of (secure_refusals state.exchange new) ≡ refused
          → Stays (guarded state.exchange (option_map_or (λ refusal. state.secured) refused (with_secured state.secured new)))
      by (Some refusal) told = unchanged safe
      by None none = record {
        safe = λ account own.
            ⊎_elim (λ before. safe account before)
            (λ (is : new ≡ account). record {
              trader = subst (λ (n : ℕ). 1 ≤ n) is may.0;
              above = told_is_enough state.exchange account kept (subst (λ (n : ℕ). is_enough state.exchange n ≡ true) is (secured_enough state.exchange new none));
            })
            (secured_or_new account state.secured new own);
        keeps = kept;
      }

pub secured_stay_safe : SecuredStaySafe
secured_stay_safe state [] kept safe coming = safe
secured_stay_safe state (e ∷ events) kept safe coming =
    let first = stays state kept e coming.0 safe in
    secured_stay_safe (after_event state e) events first.keeps first.safe coming.1
