-- What is kept stays proved, as the book changes.
use Rattle.std.proofs.Common.{◌≡◌, ℕ, ◌+◌, ◌≤◌, [], ◌∷◌, ◌++◌, Bool, true, false, cond, nat_eq, if◌then◌else◌, Option, Some, None, refl, sym, ap, ◌∙◌, subst, arith}
use Rattle.std.specs.Prelude.{IfSome}
use Rattle.std.specs.List.{All}
use Rattle.std.specs.Map.{lookup}
use Rattle.std.specs.Option.{option_map, option_map_or}
use Rattle.std.proofs.lemmas.List.Elements.{All-nil, All-push, All-weaker}
use Rattle.form.specs.declared.orders.Order.{Order}
use Rattle.order_book.specs.declared.new_order.NewOrder.{NewOrder}
use Rattle.order_book.specs.Book.{BookState, after_batch, after_close, live_of, with_market, with_number, with_order, without_order}
use Rattle.order_book.specs.Markets.{MarketState, Markets, changed_in, live_orders, settled_market, with_live, without, without_in_each}
use Rattle.order_book.proofs.AllLive.{live-with_market}
use Rattle.command_text.specs.declared.command.Body.{Body}
use Rattle.command_text.specs.declared.command.Body.TheVariants.{Command as Says, Syntax, Range}
use Rattle.command_text.specs.declared.command.Command.{Command}
use Rattle.command_text.specs.declared.command.Command.TheVariants.{Open, Deposit, Withdraw, Market, Trade, Bundle, Cancel, Clear, Settle, Balance}
use Rattle.exchange_core.specs.declared.refusal.Refusal.{Refusal}
use Rattle.exchange_core.specs.ExchangeState.{ExchangeState}
use Rattle.exchange_core.specs.LineReplies.{reply_to}
use Rattle.exchange_core.specs.Orders.{order_by, order_for}
use Rattle.exchange_core.specs.Refusals.{refusal_of}
use Rattle.exchange_core.specs.Step.{effect, refusal_effect, step}
use Rattle.exchange_core.proofs.LiveAccounts.{All-live_in, All-replaced, All-without_in_each}
use Rattle.proposals.specs.declared.best.Best.{Best}
use Rattle.proposal_lines.specs.Proved.{AgreesWith, AreProvedIn, IsEntryProved, IsProvedIn, underlyings_in}
use Rattle.proposal_lines.specs.KeptByMarket.{KeptProposals}

-- ---- the underlyings of a market
module _ (q : ℕ) where
  abbrev on_in : Markets → Option ℕ
  on_in markets = option_map (λ (m : MarketState). m.underlyings) (lookup (nat_eq q) markets)

  abbrev on_or : Bool → MarketState → Markets → Option ℕ
  on_or c m markets = option_map (λ (m : MarketState). m.underlyings) (cond c (Some m) (lookup (nat_eq q) markets))

  pub on-changed : (change : MarketState → MarketState) → ((m : MarketState) → (change m).underlyings ≡ m.underlyings) → (market : ℕ) (markets : Markets)
      → on_in (changed_in change market markets) ≡ on_in markets
  on-changed change same market [] = refl
  on-changed change same market (m ∷ markets) =
      elim (nat_eq market m.0) as (λ b. on_in (if b then (m.0, change m.1) ∷ markets else m ∷ changed_in change market markets) ≡ on_in (m ∷ markets)) [
        | true ↦ elim (nat_eq q m.0) as (λ c. on_or c (change m.1) markets ≡ on_or c m.1 markets) [ true ↦ ap Some (same m.1) | false ↦ refl ]
        | false ↦ elim (nat_eq q m.0) as (λ c. on_or c m.1 (changed_in change market markets) ≡ on_or c m.1 markets) [ true ↦ refl | false ↦ on-changed change same market markets ]
      ]

  pub on-without : (number : ℕ) (markets : Markets) → on_in (without_in_each number markets) ≡ on_in markets
  on-without number [] = refl
  on-without number (m ∷ markets) =
      elim (nat_eq q m.0) as (λ c. on_or c (with_live m.1 (without number m.1.live)) (without_in_each number markets) ≡ on_or c m.1 markets) [
        | true ↦ refl
        | false ↦ on-without number markets
      ]

  pub on-more : (n : ℕ) (new : ℕ × MarketState) (markets : Markets) → on_in markets ≡ Some n → on_in (markets ++ new ∷ []) ≡ Some n
  on-more n new [] there = cc
  on-more n new (m ∷ markets) there =
      (elim (nat_eq q m.0) as (λ c. on_or c m.1 markets ≡ Some n → on_or c m.1 (markets ++ new ∷ []) ≡ Some n) [
        | true ↦ λ h. h
        | false ↦ λ h. on-more n new markets h
      ]) there

-- ---- the changes of a book
module _ (book : BookState) (market : ℕ) (best : Best) (is : IsProvedIn book market best) where
  abbrev IsAlike : Order → Type 0
  IsAlike = AgreesWith is.batch.orders

  changed : (after : BookState) → underlyings_in after market ≡ Some is.batch.underlyings → All IsAlike (live_orders after.markets) → book.accepted ≤ after.accepted → IsProvedIn after market best
  changed after underlyings agree more = record {
    batch = is.batch;
    proved = is.proved;
    numbers = is.numbers;
    underlyings = underlyings;
    agree = agree;
    accepted = All-weaker (λ (order : Order). order.id ≤ book.accepted) (λ (order : Order). order.id ≤ after.accepted) (λ order le. omega (arith, le, more)) is.batch.orders is.accepted;
  }

  -- a new order has a new number
  is_new : (order : NewOrder) → IsAlike (with_number (book.accepted + 1) order)
  is_new order =
      All-weaker (λ (own : Order). own.id ≤ book.accepted) (λ (own : Order). book.accepted + 1 ≡ own.id → with_number (book.accepted + 1) order ≡ own)
      (λ own le e. absurd (omega (arith, le, e))) is.batch.orders is.accepted

  with_market_proved : (listed underlyings : ℕ) → IsProvedIn (with_market book listed underlyings) market best
  with_market_proved listed underlyings =
      changed (with_market book listed underlyings) (on-more market is.batch.underlyings _ book.markets is.underlyings)
      (subst (All IsAlike) (sym (live-with_market listed underlyings book.markets)) is.agree) (omega arith)

  with_order_proved : (order : NewOrder) → IsProvedIn (with_order book order) market best
  with_order_proved order =
      let live = live_of book order.market in
      let new = with_number (book.accepted + 1) order in
      changed (with_order book order) (on-changed market (λ m. with_live m (live ++ new ∷ [])) (λ m. refl) order.market book.markets ∙ is.underlyings)
      (All-replaced IsAlike order.market (λ m. with_live m (live ++ new ∷ [])) (live ++ new ∷ []) (λ m. refl) book.markets is.agree
      (All-push IsAlike live new (All-live_in IsAlike order.market book.markets is.agree) (is_new order))) (omega arith)

  without_order_proved : (number : ℕ) → IsProvedIn (without_order book number) market best
  without_order_proved number =
      changed (without_order book number) (on-without market number book.markets ∙ is.underlyings) (All-without_in_each IsAlike number book.markets is.agree) (omega arith)

  pub after_batch_proved : (cleared : ℕ) → IsProvedIn (after_batch book cleared) market best
  after_batch_proved cleared =
      changed (after_batch book cleared) (on-changed market (λ m. with_live m []) (λ m. refl) cleared book.markets ∙ is.underlyings)
      (All-replaced IsAlike cleared (λ m. with_live m []) [] (λ m. refl) book.markets is.agree (All-nil IsAlike)) (omega arith)

  after_close_proved : (closed : ℕ) → IsProvedIn (after_close book closed) market best
  after_close_proved closed =
      changed (after_close book closed) (on-changed market settled_market (λ m. refl) closed book.markets ∙ is.underlyings)
      (All-replaced IsAlike closed settled_market [] (λ m. refl) book.markets is.agree (All-nil IsAlike)) (omega arith)

-- ---- the steps of an exchange
-- what each effect keeps, each reply keeps
module _ (P : ExchangeState → Type 0) (state : ExchangeState) (is : P state) (each : (command : Command) → P (effect state command).1) where
  step_keeps : (command : Command) → P (step state command).1
  step_keeps command =
      elim (refusal_of state command) as (λ (r : Option Refusal). P (option_map_or (refusal_effect state) r (effect state command)).1) [
        | None ↦ each command
        | Some refusal ↦ is
      ]

  pub reply_keeps : (said : Body) → P (reply_to state said).1
  reply_keeps (Says command) = step_keeps command
  reply_keeps Syntax = is
  reply_keeps (Range field) = is

module _ (state : ExchangeState) (market : ℕ) (best : Best) (is : IsProvedIn state.book market best) where
  effect_proved : (command : Command) → IsProvedIn (effect state command).1.book market best
  effect_proved (Open account) = is
  effect_proved (Deposit account amount) = is
  effect_proved (Withdraw account amount) = is
  effect_proved (Market listed underlyings) = with_market_proved state.book market best is listed underlyings
  effect_proved (Trade side account traded kind strike price quantity count weights) =
      with_order_proved state.book market best is (order_by side account traded kind strike price quantity count weights)
  effect_proved (Bundle side account traded price quantity bundle) = with_order_proved state.book market best is (order_for side account traded price quantity bundle)
  effect_proved (Cancel account order) = without_order_proved state.book market best is order
  effect_proved (Clear cleared budget) = after_batch_proved state.book market best is cleared
  effect_proved (Settle settled count prices) = after_close_proved state.book market best is settled
  effect_proved (Balance account) = is

  pub reply_proved : (said : Body) → IsProvedIn (reply_to state said).1.book market best
  reply_proved = reply_keeps (λ (after : ExchangeState). IsProvedIn after.book market best) state is effect_proved

-- ---- of all that is kept
pub entries_moved : (before after : BookState) → ((market : ℕ) (best : Best) → IsProvedIn before market best → IsProvedIn after market best)
    → (kept : KeptProposals) → AreProvedIn before kept → AreProvedIn after kept
entries_moved before after moved kept are = All-weaker (IsEntryProved before) (IsEntryProved after) (λ e. one e.0 e.1) kept are
  where
    one : (market : ℕ) (best : Option Best) → IfSome best (IsProvedIn before market) → IfSome best (IsProvedIn after market)
    one market None is = tt
    one market (Some best) is = moved market best is
