-- What a step does to the house's gains: it clears a batch, settles a market, or neither.
use Rattle.std.proofs.Common.{◌≡◌, ℕ, ◌+◌, ◌≤◌, length, take, List, [], ◌∷◌, ◌++◌, Bool, true, false, Option, None, Some, ◌⊎◌, inl, inr, refl, sym, ap, ◌∙◌, subst, arith}
use Rattle.std.specs.List.{All}
use Rattle.std.specs.Option.{option_map, option_map_or}
use Rattle.std.proofs.lemmas.List.{length-take}
use Rattle.std.proofs.lemmas.List.Elements.{All-nil, All-push}
use Rattle.cert_check.specs.declared.outcome.Outcome.{Outcome}
use Rattle.cert_check.specs.Laws.{IsCovered}
use Rattle.command_text.specs.declared.command.Body.{Body}
use Rattle.command_text.specs.declared.command.Body.TheVariants.{Command, Syntax, Range}
use Rattle.command_text.specs.declared.command.Command as declared
use Rattle.command_text.specs.declared.command.Command.TheVariants.{Open, Deposit, Withdraw, Market, Trade, Bundle, Cancel, Clear, Settle, Balance as BalanceOf}
use Rattle.command_text.specs.Within.{BodyIsWithin, IsWithin}
use Rattle.form.specs.declared.orders.Batch.{Batch}
use Rattle.form.specs.declared.orders.Order.{Order}
use Rattle.order_book.specs.declared.new_order.NewOrder.{NewOrder}
use Rattle.order_book.specs.Book.{after_batch, after_close, batch_of, live_of, market_of, with_number}
use Rattle.order_book.specs.Markets.{MarketState, live_orders, settled_market, with_live, with_live_in}
use Rattle.order_book.specs.Refusals.{batch_refusals}
use Rattle.order_book.proofs.Accepting.{closable, finishable}
use Rattle.order_book.proofs.AllLive.{live-with_market}
use Rattle.lists.specs.Refusals.{first_of}
use Rattle.settlement.specs.Positions.{outside, payouts_of}
use Rattle.exchange_core.specs.declared.refusal.Refusal.{Refusal}
use Rattle.exchange_core.specs.declared.refusal.Refusal.TheVariants as refusal
use Rattle.reply_print.specs.declared.replies.Reply.{Reply}
use Rattle.reply_print.specs.declared.replies.Reply.TheVariants.{Cleared, Settled}
use Rattle.exchange_core.specs.Covered.{IfCleared}
use Rattle.exchange_core.specs.ExchangeState.{ExchangeState, all_live}
use Rattle.exchange_core.specs.Kept.{IsKept}
use Rattle.exchange_core.specs.LineReplies.{reply_to}
use Rattle.exchange_core.specs.Orders.{order_by, order_for}
use Rattle.exchange_core.specs.Payoffs.{payoff_entries}
use Rattle.exchange_core.specs.Positions.{positions_in}
use Rattle.exchange_core.specs.Premiums.{premium_entries}
use Rattle.exchange_core.specs.Refusals.{by_book, refusal_of}
use Rattle.exchange_core.specs.Step.{batch_in, cleared_as, effect, place_effect, refusal_effect, step}
use Rattle.exchange_core.proofs.Covered.{step_is_covered}
use Rattle.exchange_core.proofs.FirstRefusal.{batch_none, close_none}
use Rattle.exchange_core.proofs.Keeping.{clears_keep, step_keeps}
use Rattle.exchange_core.proofs.LiveAccounts.{All-live_in, All-replaced, All-without_in_each}
use Rattle.exchange_lines.specs.Gain.{house_total}
use Rattle.exchange_lines.specs.Moves.{MayMove, Move, clears, move, says}
use Rattle.exchange_lines.proofs.HouseEntries.{deposit_apart, withdrawal_apart}
use Rattle.exchange_lines.proofs.GainReplies.{is_plain}
use Rattle.exchange_lines.proofs.Listings.{listed_in, listing, listed-changed, listed-more, listed-without}

-- an order of an account other than the house
abbrev pub IsTrader : Order → Type 0
IsTrader order = 1 ≤ order.account

module _ (state : ExchangeState) (result : Reply × ExchangeState) where
  -- neither: positions, the number of batches, the house's entries for each batch and each listing
  -- stay
  pub record IsQuiet : Type 0 where
    pub reply : is_plain result.0 ≡ true
    pub positions : result.1.positions ≡ state.positions
    pub finished : result.1.book.finished ≡ state.book.finished
    pub entered : (number : ℕ) → house_total number result.1.entries ≡ house_total number state.entries
    pub listed : (market : ℕ) (is : ℕ × Bool) → listed_in state.book.markets market ≡ Some is → listed_in result.1.book.markets market ≡ Some is

  -- a batch is cleared
  pub record IsClear : Type 0 where
    pub market : ℕ
    pub batch : Batch
    pub outcome : Outcome
    pub covered : IsCovered batch outcome
    pub traders : All IsTrader batch.orders
    pub listed : listed_in state.book.markets market ≡ Some (batch.underlyings, false)
    pub reply : result.0 ≡ Cleared (state.book.finished + 1) market batch outcome
    pub book : result.1.book ≡ after_batch state.book market
    pub positions : result.1.positions ≡ state.positions ++ positions_in market (state.book.finished + 1) batch.orders outcome.fills
    pub entries : result.1.entries ≡ state.entries ++ premium_entries (state.book.finished + 1) batch.orders outcome.fills

  -- a market is settled
  pub record IsSettle : Type 0 where
    pub market : ℕ
    pub prices : List ℕ
    pub lapsed : ℕ
    pub underlyings : ℕ
    pub few : length prices ≤ underlyings
    pub listed : listed_in state.book.markets market ≡ Some (underlyings, false)
    pub reply : result.0 ≡ Settled market lapsed (payouts_of market prices state.positions)
    pub book : result.1.book ≡ after_close state.book market
    pub positions : result.1.positions ≡ outside market state.positions
    pub entries : result.1.entries ≡ state.entries ++ payoff_entries (payouts_of market prices state.positions)

  abbrev pub IsOneKind : Type 0
  IsOneKind = IsQuiet ⊎ (IsClear ⊎ IsSettle)

  -- and what is kept stays kept
  pub record StepsTo : Type 0 where
    pub kept : IsKept result.1
    pub traders : All IsTrader (all_live result.1)
    pub kind : IsOneKind

-- ---- a refusal
pub refusal_steps : (state : ExchangeState) (told : Refusal) → IsKept state → All IsTrader (all_live state) → StepsTo state (refusal_effect state told)
refusal_steps state told kept traders = record {
  kept = kept;
  traders = traders;
  kind = inl (record { reply = refl; positions = refl; finished = refl; entered = λ number. refl; listed = λ market is there. there });
}

-- ---- the effects
module _ (state : ExchangeState) (kept : IsKept state) (traders : All IsTrader (all_live state)) where
  placed_traders : (order : NewOrder) → 1 ≤ order.account → All IsTrader (all_live (place_effect state order).1)
  placed_traders order some =
      let live = live_of state.book order.market in
      let new = with_number (state.book.accepted + 1) order in
      All-replaced IsTrader order.market (λ m. with_live m (live ++ new ∷ [])) (live ++ new ∷ []) (λ m. refl) state.book.markets traders
      (All-push IsTrader live new (All-live_in IsTrader order.market state.book.markets traders) some)

  placed_quiet : (order : NewOrder) → IsQuiet state (place_effect state order)
  placed_quiet order = record {
    reply = refl;
    positions = refl;
    finished = refl;
    entered = λ number. refl;
    listed = λ market is there. listed-changed market (λ m. with_live m _) order.market (λ m h. refl) state.book.markets ∙ there;
  }

  emptied_traders : (market : ℕ) → All IsTrader (live_orders (with_live_in market [] state.book.markets))
  emptied_traders market = All-replaced IsTrader market (λ m. with_live m []) [] (λ m. refl) state.book.markets traders (All-nil IsTrader)

  effect_traders : (command : declared.Command) → IsWithin command → All IsTrader (all_live (effect state command).1)
  effect_traders (Open account) within = traders
  effect_traders (Deposit account amount) within = traders
  effect_traders (Withdraw account amount) within = traders
  effect_traders (Market market underlyings) within = subst (All IsTrader) (sym (live-with_market market underlyings state.book.markets)) traders
  effect_traders (Trade side account market kind strike price quantity count weights) within =
      placed_traders (order_by side account market kind strike price quantity count weights) within.0.0
  effect_traders (Bundle side account market price quantity bundle) within = placed_traders (order_for side account market price quantity bundle) within.0.0
  effect_traders (Cancel account order) within = All-without_in_each IsTrader order state.book.markets traders
  effect_traders (Clear market budget) within = emptied_traders market
  effect_traders (Settle market count prices) within = All-replaced IsTrader market settled_market [] (λ m. refl) state.book.markets traders (All-nil IsTrader)
  effect_traders (BalanceOf account) within = traders

  -- a batch of a market that may be cleared, with an outcome that covers its surplus
  is_cleared : (market : ℕ) (outcome : Outcome) → first_of (by_book (batch_refusals state.book market)) ≡ None → IsCovered (batch_in state market) outcome
      → IsClear state (cleared_as state market outcome)
  is_cleared market outcome none covered =
      let (m, found, more, unsettled) = finishable state.book market (batch_none state.book market none) in
      let none_there : Batch = record { underlyings = 0; orders = [] } in
      let orders : live_of state.book market ≡ (option_map_or batch_of (market_of state.book market) none_there).orders =
      ap (λ r. option_map_or (λ (m : MarketState). m.live) r []) found ∙ sym (ap (λ r. (option_map_or batch_of r none_there).orders) found) in
      record {
        market = market;
        batch = _;
        outcome = outcome;
        covered = covered;
        traders = subst (All IsTrader) orders (All-live_in IsTrader market state.book.markets traders);
        listed = ap (option_map listing) found ∙ ap (λ s. Some (m.underlyings, s)) unsettled ∙ sym (ap (λ r. Some ((option_map_or batch_of r none_there).underlyings, false)) found);
        reply = refl;
        book = refl;
        positions = refl;
        entries = refl;
      }

  effect_is : (command : declared.Command) → refusal_of state command ≡ None → IfCleared IsCovered (effect state command).0 → IsOneKind state (effect state command)
  effect_is (Open account) none covered = inl (record { reply = refl; positions = refl; finished = refl; entered = λ number. refl; listed = λ market is there. there })
  effect_is (Deposit account amount) none covered =
      inl (record { reply = refl; positions = refl; finished = refl; entered = λ number. deposit_apart number state.entries account amount; listed = λ market is there. there })
  effect_is (Withdraw account amount) none covered =
      inl (record { reply = refl; positions = refl; finished = refl; entered = λ number. withdrawal_apart number state.entries account amount; listed = λ market is there. there })
  effect_is (Market market underlyings) none covered =
      inl (record { reply = refl; positions = refl; finished = refl; entered = λ number. refl; listed = λ q is there. listed-more q is _ state.book.markets there })
  effect_is (Trade side account market kind strike price quantity count weights) none covered = inl (placed_quiet (order_by side account market kind strike price quantity count weights))
  effect_is (Bundle side account market price quantity bundle) none covered = inl (placed_quiet (order_for side account market price quantity bundle))
  effect_is (Cancel account order) none covered =
      inl (record { reply = refl; positions = refl; finished = refl; entered = λ number. refl; listed = λ market is there. listed-without market order state.book.markets ∙ there })
  effect_is (Clear market budget) none covered = inr (inl (is_cleared market _ none covered))
  effect_is (Settle market count prices) none covered =
      let (m, found, unsettled, same) = closable state.book market count (close_none state.book market count none) in
      inr (inr (record {
        market = market;
        prices = take count prices;
        lapsed = _;
        underlyings = m.underlyings;
        few = omega (arith, same, length-take count prices);
        listed = ap (option_map listing) found ∙ ap (λ s. Some (m.underlyings, s)) unsettled;
        reply = refl;
        book = refl;
        positions = refl;
        entries = refl;
      }))
  effect_is (BalanceOf account) none covered = inl (record { reply = refl; positions = refl; finished = refl; entered = λ number. refl; listed = λ market is there. there })

pub command_steps : (state : ExchangeState) (command : declared.Command) → IsWithin command → IsKept state → All IsTrader (all_live state) → StepsTo state (step state command)
command_steps state command within kept traders = by (refusal_of state command) refl (step_keeps state command kept within) (step_is_covered state command kept)
  where
    by : (r : Option Refusal) → refusal_of state command ≡ r → IsKept (option_map_or (refusal_effect state) r (effect state command)).1
        → IfCleared IsCovered (option_map_or (refusal_effect state) r (effect state command)).0 → StepsTo state (option_map_or (refusal_effect state) r (effect state command))
    by None none after covered = record {
      kept = after;
      traders = effect_traders state kept traders command within;
      kind = effect_is state kept traders command none covered;
    }
    by (Some first) told after covered = refusal_steps state first kept traders

pub cleared_steps : (state : ExchangeState) (market : ℕ) (outcome : Outcome) → first_of (by_book (batch_refusals state.book market)) ≡ None → IsCovered (batch_in state market) outcome
    → IsKept state → All IsTrader (all_live state) → StepsTo state (cleared_as state market outcome)
cleared_steps state market outcome none covered kept traders = record {
  kept = clears_keep state market outcome.fills kept none covered.covers.are_fills;
  traders = emptied_traders state kept traders market;
  kind = inr (inl (is_cleared state kept traders market outcome none covered));
}

pub body_steps : (state : ExchangeState) (said : Body) → BodyIsWithin said → IsKept state → All IsTrader (all_live state) → StepsTo state (reply_to state said)
body_steps state (Command command) within kept traders = command_steps state command within kept traders
body_steps state Syntax within kept traders = refusal_steps state refusal.Syntax kept traders
body_steps state (Range field) within kept traders = refusal_steps state (refusal.Range field) kept traders

pub move_steps : (state : ExchangeState) (next : Move) → MayMove state next → IsKept state → All IsTrader (all_live state) → StepsTo state (move state next)
move_steps state (says said) within kept traders = body_steps state said within kept traders
move_steps state (clears market outcome) may kept traders = cleared_steps state market outcome may.0 may.1 kept traders
