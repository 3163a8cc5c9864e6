-- A settled market stays settled, and no batch of it is cleared.
use Rattle.std.proofs.Common.{◌≡◌, ℕ, List, [], Bool, true, false, nat_eq, Option, Some, None, refl, sym, ap, ◌∙◌, subst, true≢false}
use Rattle.std.specs.Prelude.{⊤}
use Rattle.std.specs.Option.{option_map, option_map_or}
use Rattle.std.proofs.lemmas.Bool.{eqb-true}
use Rattle.command_text.specs.declared.command.Body.{Body}
use Rattle.command_text.specs.declared.command.Body.TheVariants.{Command as Says, Syntax, Range}
use Rattle.command_text.specs.declared.command.Command.{Command}
use Rattle.command_text.specs.declared.command.Command.TheVariants as command
use Rattle.exchange_core.specs.declared.refusal.Refusal.{Refusal}
use Rattle.exchange_core.specs.ExchangeState.{ExchangeState}
use Rattle.exchange_core.specs.LineReplies.{reply_to}
use Rattle.exchange_core.specs.Refusals.{refusal_of}
use Rattle.exchange_core.specs.Step.{cleared_with, effect, refusal_effect, step}
use Rattle.exchange_core.proofs.FirstRefusal.{batch_none, close_none}
use Rattle.exchange_lines.proofs.Listings.{listed_in, listed-changed, listed-closed, listed-more, listed-without, listing, same_listing}
use Rattle.frac.specs.declared.frac128.Frac128.{Frac128}
use Rattle.order_book.specs.Markets.{Markets, changed_in, settled_market, with_live}
use Rattle.order_book.proofs.Accepting.{closable, finishable}
use Rattle.reply_print.specs.declared.replies.Reply.{Reply}
use Rattle.reply_print.specs.declared.replies.Reply.TheVariants.{Opened, Deposited, Withdrawn, Listed, Placed, Cancelled, Cleared, Settled, Balance, Refused}
use Rattle.proposal_lines.proofs.Moving.{reply_keeps}

-- the market is there, on some underlyings, and settled
abbrev pub IsOver : ℕ → ExchangeState → Type 0
IsOver market state = (n : ℕ) × (listed_in state.book.markets market ≡ Some (n, true))

module _ (market n : ℕ) where
  abbrev IsSettledIn : Markets → Type 0
  IsSettledIn markets = listed_in markets market ≡ Some (n, true)

  abbrev IsSettledOn : ExchangeState → Type 0
  IsSettledOn state = IsSettledIn state.book.markets

  emptied : (other : ℕ) (markets : Markets) → IsSettledIn markets → IsSettledIn (changed_in (λ m. with_live m []) other markets)
  emptied other markets is = listed-changed market (λ m. with_live m []) other (λ m h. refl) markets ∙ is

  settled_too : (other : ℕ) (markets : Markets) → IsSettledIn markets → IsSettledIn (changed_in settled_market other markets)
  settled_too other markets is = by (nat_eq market other) refl
    where
      by : (b : Bool) → nat_eq market other ≡ b → IsSettledIn (changed_in settled_market other markets)
      by true own = subst (λ k. IsSettledIn (changed_in settled_market k markets)) (eqb-true market other own) (listed-closed market n true markets is)
      by false apart = listed-changed market settled_market other (λ m h. absurd (true≢false (sym h ∙ apart))) markets ∙ is

  effect_settled : (state : ExchangeState) (c : Command) → IsSettledOn state → IsSettledOn (effect state c).1
  effect_settled state (command.Open account) is = is
  effect_settled state (command.Deposit account amount) is = is
  effect_settled state (command.Withdraw account amount) is = is
  effect_settled state (command.Market listed underlyings) is = listed-more market (n, true) _ state.book.markets is
  effect_settled state (command.Trade side account traded kind strike price quantity count weights) is =
      listed-changed market (λ m. with_live m _) traded (λ m h. refl) state.book.markets ∙ is
  effect_settled state (command.Bundle side account traded price quantity bundle) is = listed-changed market (λ m. with_live m _) traded (λ m h. refl) state.book.markets ∙ is
  effect_settled state (command.Cancel account order) is = listed-without market order state.book.markets ∙ is
  effect_settled state (command.Clear cleared budget) is = emptied cleared state.book.markets is
  effect_settled state (command.Settle settled count prices) is = settled_too settled state.book.markets is
  effect_settled state (command.Balance account) is = is

-- ---- it stays
pub reply_over : (market : ℕ) (state : ExchangeState) (said : Body) → IsOver market state → IsOver market (reply_to state said).1
reply_over market state said (n, is) = (n, reply_keeps (IsSettledOn market n) state is (λ c. effect_settled market n state c is) said)

pub cleared_over : (market other : ℕ) (state : ExchangeState) (fills : List Frac128) → IsOver market state → IsOver market (cleared_with state other fills)
cleared_over market other state fills (n, is) = (n, emptied market n other state.book.markets is)

-- ---- no clear of it is accepted
pub never_cleared : (market budget : ℕ) (state : ExchangeState) → IsOver market state → refusal_of state (command.Clear market budget) ≡ None → ⊥
never_cleared market budget state (n, is) none =
    let (m, found, more, unsettled) = finishable state.book market (batch_none state.book market none) in
    let same : (n, true) ≡ (m.underlyings, m.settled) = same_listing (n, true) (m.underlyings, m.settled) (sym is ∙ ap (option_map listing) found) in
    true≢false (ap (λ (p : ℕ × Bool). p.1) same ∙ unsettled)

-- ---- a market that a reply tells as settled
abbrev pub IsOverWhereSettled : ExchangeState → Reply → Type 0
IsOverWhereSettled state (Opened account) = ⊤
IsOverWhereSettled state (Deposited account balance) = ⊤
IsOverWhereSettled state (Withdrawn account balance) = ⊤
IsOverWhereSettled state (Listed market underlyings) = ⊤
IsOverWhereSettled state (Placed order) = ⊤
IsOverWhereSettled state (Cancelled order) = ⊤
IsOverWhereSettled state (Cleared number market batch outcome) = ⊤
IsOverWhereSettled state (Settled market lapsed payouts) = IsOver market state
IsOverWhereSettled state (Balance account balance reserved) = ⊤
IsOverWhereSettled state (Refused number field) = ⊤

module _ (state : ExchangeState) where
  abbrev Settles : Reply × ExchangeState → Type 0
  Settles now = IsOverWhereSettled now.1 now.0

  effect_settles : (c : Command) → refusal_of state c ≡ None → Settles (effect state c)
  effect_settles (command.Open account) none = tt
  effect_settles (command.Deposit account amount) none = tt
  effect_settles (command.Withdraw account amount) none = tt
  effect_settles (command.Market listed underlyings) none = tt
  effect_settles (command.Trade side account traded kind strike price quantity count weights) none = tt
  effect_settles (command.Bundle side account traded price quantity bundle) none = tt
  effect_settles (command.Cancel account order) none = tt
  effect_settles (command.Clear cleared budget) none = tt
  effect_settles (command.Settle market count prices) none =
      let (m, found, unsettled, same) = closable state.book market count (close_none state.book market count none) in
      (m.underlyings, listed-closed market m.underlyings m.settled state.book.markets (ap (option_map listing) found))
  effect_settles (command.Balance account) none = tt

  step_settles : (c : Command) → Settles (step state c)
  step_settles c = by (refusal_of state c) refl
    where
      by : (refused : Option Refusal) → refusal_of state c ≡ refused → Settles (option_map_or (refusal_effect state) refused (effect state c))
      by None none = effect_settles c none
      by (Some first) is = tt

  pub reply_settles : (said : Body) → Settles (reply_to state said)
  reply_settles (Says c) = step_settles c
  reply_settles Syntax = tt
  reply_settles (Range field) = tt
