-- The batch of a closed market stays: its underlyings whatever lines come, its orders while it is
-- closed.
use Rattle.std.proofs.Common.{◌≡◌, ℕ, true, List, [], ◌∷◌, Option, Some, None, is_some, refl, sym, ap, ◌∙◌, subst, true≢false}
use Rattle.std.specs.Option.{option_map, option_map_or}
use Rattle.std.proofs.lemmas.Option.{none-some, same_Some}
use Rattle.command_text.specs.Commands.{body_of_line}
use Rattle.command_text.specs.declared.command.Body.{Body}
use Rattle.command_text.specs.declared.command.Body.TheVariants.{Command as Says, Syntax, Range}
use Rattle.command_text.specs.declared.command.Command.{Command}
use Rattle.command_text.specs.declared.command.Command.TheVariants.{Open, Deposit, Withdraw, Market, Trade, Bundle, Cancel, Clear, Settle, Balance}
use Rattle.exchange_core.specs.ExchangeState.{ExchangeState}
use Rattle.exchange_core.specs.LineReplies.{reply_to}
use Rattle.exchange_core.specs.Refusals.{refusal_of}
use Rattle.exchange_core.specs.Step.{batch_in, effect, refusal_effect, step}
use Rattle.exchange_core.specs.declared.refusal.Refusal.{Refusal}
use Rattle.exchange_lines.specs.LineSteps.{InputLine}
use Rattle.form.specs.declared.orders.Batch.{Batch}
use Rattle.form.specs.declared.orders.Order.{Order}
use Rattle.order_book.specs.Book.{batch_of, info_of, live_of, market_of}
use Rattle.order_book.specs.Markets.{MarketState, settled_market, with_live}
use Rattle.proposal_lines.specs.Laws.{IsSound}
use Rattle.proposal_lines.specs.Promises.{IsToldFor, ProposalAnswer, beside, bounded, replied, taken}
use Rattle.proposal_lines.specs.Proved.{underlyings_in}
use Rattle.proposal_lines.specs.ProposingState.{ProposingState}
use Rattle.proposal_lines.proofs.Moving.{on-changed, on-more, on-without}
use Rattle.serve_lines.specs.Laws.{ClosedBatchesStay}
use Rattle.serve_lines.specs.Output.{serving_line}
use Rattle.serve_lines.specs.Phased.{exchange_of}
use Rattle.serve_lines.specs.Promises.{state_by_lines}
use Rattle.serve_lines.specs.ServingState.{ServingState}
use Rattle.serve_lines.proofs.StandingStill.{closed_markets_stand_still}
use Rattle.serve_lines.proofs.Telling.{serving_sound, serving_told}

abbrev batch_with : ℕ → List Order → Batch
batch_with n orders = record { underlyings = n; orders = orders }

module _ (market n : ℕ) where
  -- ---- the market is there, on so many underlyings
  abbrev IsOn : ExchangeState → Type 0
  IsOn state = underlyings_in state.book market ≡ Some n

  effect_on : (state : ExchangeState) (command : Command) → IsOn state → IsOn (effect state command).1
  effect_on state (Open account) on = on
  effect_on state (Deposit account amount) on = on
  effect_on state (Withdraw account amount) on = on
  effect_on state (Market listed underlyings) on = on-more market n _ state.book.markets on
  effect_on state (Trade side account other kind strike price quantity count weights) on =
      on-changed market (λ m. with_live m _) (λ m. refl) other state.book.markets ∙ on
  effect_on state (Bundle side account other price quantity bundle) on = on-changed market (λ m. with_live m _) (λ m. refl) other state.book.markets ∙ on
  effect_on state (Cancel account order) on = on-without market order state.book.markets ∙ on
  effect_on state (Clear other budget) on = on-changed market (λ m. with_live m []) (λ m. refl) other state.book.markets ∙ on
  effect_on state (Settle other count prices) on = on-changed market settled_market (λ m. refl) other state.book.markets ∙ on
  effect_on state (Balance account) on = on

  step_on : (state : ExchangeState) (command : Command) → IsOn state → IsOn (step state command).1
  step_on state command on = by (refusal_of state command)
    where
      by : (refused : Option Refusal) → IsOn (option_map_or (refusal_effect state) refused (effect state command)).1
      by None = effect_on state command on
      by (Some first) = on

  reply_on : (state : ExchangeState) (said : Body) → IsOn state → IsOn (reply_to state said).1
  reply_on state (Says command) on = step_on state command on
  reply_on state Syntax on = on
  reply_on state (Range field) on = on

  -- ---- whatever a line is told
  told_on : (state : ProposingState) (line : InputLine) (answer : ProposalAnswer) (after : ProposingState) → IsToldFor state line answer after → IsOn state.exchange → IsOn after.exchange
  told_on state line (replied answer) after told on = subst IsOn (sym told.exchange) (reply_on state.exchange (body_of_line line.bytes) on)
  told_on state line (bounded answer) after told on =
      subst IsOn (sym told.exchange) (on-changed market (λ m. with_live m []) (λ m. refl) answer.market state.exchange.book.markets ∙ on)
  told_on state line (taken answer) after told on = subst IsOn (sym told.exchange) on
  told_on state line (beside number text) after told on = subst IsOn (sym told.exchange) on

  lines_on : (lines : List InputLine) (state : ServingState) → IsSound state.proposing → IsOn (exchange_of state) → IsOn (exchange_of (state_by_lines state lines))
  lines_on [] state sound on = on
  lines_on (line ∷ lines) state sound on =
      let next = (serving_line line.number state line.bytes).1 in
      let told = (serving_told line state sound).line_is in
      lines_on lines next (serving_sound line state sound) (told_on state.proposing line told.answer next.proposing told.told on)

  -- ---- its batch
  batch_on : (state : ExchangeState) → IsOn state → batch_in state market ≡ batch_with n (live_of state.book market)
  batch_on state on = by (market_of state.book market) on
    where
      by : (found : Option MarketState) → option_map (λ (m : MarketState). m.underlyings) found ≡ Some n
          → option_map_or batch_of found (batch_with 0 []) ≡ batch_with n (option_map_or (λ (m : MarketState). m.live) found [])
      by None e = absurd (none-some n e)
      by (Some m) e = ap (λ (k : ℕ). batch_with k m.live) (same_Some m.underlyings n e)

-- a market that is there is on some underlyings
some_on : (found : Option MarketState) → is_some (option_map info_of found) ≡ true → (n : ℕ) × (option_map (λ (m : MarketState). m.underlyings) found ≡ Some n)
some_on None e = absurd (true≢false (sym e))
some_on (Some m) e = (m.underlyings, refl)

pub closed_batches_stay : ClosedBatchesStay
closed_batches_stay market state lines sound shut listed meanwhile =
    let (n, on) = some_on (market_of (exchange_of state).book market) listed in
    let live = (closed_markets_stand_still market state lines sound shut meanwhile).live in
    batch_on market n (exchange_of (state_by_lines state lines)) (lines_on market n lines state sound on) ∙ ap (batch_with n) live
    ∙ sym (batch_on market n (exchange_of state) on)
