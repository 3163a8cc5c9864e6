-- What lines are told to be needed is at least what truly is.
use Rattle.std.proofs.Common.{◌≡◌, ℕ, Bool, true, false, ◌&&◌, List, Option, None, Some, is_none, Result, IfOk, if◌then◌else◌, refl, subst}
use Rattle.std.specs.Option.{option_map_or}
use Rattle.account_need.specs.Account.{Need, portfolios}
use Rattle.account_need.proofs.Accounts.{need_is_above_true}
use Rattle.auction_phases.specs.Phases.{bars}
use Rattle.command_text.specs.declared.asked.Fault.{Fault}
use Rattle.command_text.specs.declared.command.Command.{Command}
use Rattle.command_text.specs.declared.requests.Request.{Request}
use Rattle.command_text.specs.declared.words.TheConstants.{SERVED}
use Rattle.command_text.specs.Within.{IsWithin, RequestIsWithin}
use Rattle.command_text.proofs.ReadWithin.{said_is_within}
use Rattle.exchange_core.specs.declared.refusal.Refusal.{Refusal}
use Rattle.exchange_core.specs.ExchangeState.{ExchangeState}
use Rattle.exchange_core.specs.Held.{market_numbers}
use Rattle.exchange_core.specs.Kept.{IsKept}
use Rattle.exchange_core.specs.Refusals.{refusal_of}
use Rattle.exchange_core.specs.Step.{effect, refusal_effect}
use Rattle.exchange_core.proofs.Keeping.{step_keeps}
use Rattle.exchange_lines.specs.LineSteps.{InputLine}
use Rattle.proposal_lines.specs.Laws.{IsSound}
use Rattle.proposal_lines.proofs.Telling.{empty_is_sound}
use Rattle.secured_accounts.specs.Secured.{account_of, is_enough, is_secured, need_above, need_in, risked_by, uncovered, uncovered_by}
use Rattle.secured_accounts.proofs.ToldNeeds.{all_traded}
use Rattle.secured_lines.specs.Laws.{state_by_lines}
use Rattle.secured_lines.specs.Needs.{IsAboveTrue, NeedsAreEnough}
use Rattle.secured_lines.specs.Output.{kept_from}
use Rattle.secured_lines.specs.SecuredState.{SecuredState, empty_secured, exchange_in}
use Rattle.secured_lines.proofs.Telling.{lines_sound}

above_true : (exchange : ExchangeState) (account : ℕ) → IsKept exchange → IsAboveTrue exchange account (need_in exchange account)
above_true exchange account kept amount needs is are =
    need_is_above_true (portfolios (account_of exchange account)) needs amount (all_traded exchange account kept (market_numbers exchange.book)) are is

-- ---- a command that is kept from the exchange
module _ (state : SecuredState) (command : Command) (account : ℕ) (need : Need) (risk : risked_by command ≡ Some account) where
  abbrev exchange : ExchangeState
  exchange = exchange_in state

  abbrev next : ExchangeState
  next = (effect exchange command).1

  -- the exchange would accept it, and this is what the account would need
  record IsKeptFrom : Type 0 where
    accepted : refusal_of exchange command ≡ None
    needed : need_in next account ≡ need

  by_enough : (enough : Bool) → (if enough then None else Some (need_in next account)) ≡ Some need → need_in next account ≡ need
  by_enough true is = cc
  by_enough false is = cc

  by_refusal : (own : Bool) (refused : Option Refusal) → refusal_of exchange command ≡ refused
      → (if own && is_none refused then need_above next account else None) ≡ Some need → IsKeptFrom
  by_refusal true None none is = record { accepted = none; needed = by_enough (is_enough next account) is }
  by_refusal true (Some refusal) told is = absurd (cc)
  by_refusal false refused told is = absurd (cc)

  by_risk : uncovered state.secured exchange command ≡ Some need → IsKeptFrom
  by_risk is =
      by_refusal (is_secured state.secured account) (refusal_of exchange command) refl
      (subst (λ (r : Option ℕ). option_map_or (uncovered_by state.secured exchange command) r None ≡ Some need) risk is)

  by_bars : (barred : Bool) → (if barred then None else uncovered state.secured exchange command) ≡ Some need → IsKeptFrom
  by_bars true is = absurd (cc)
  by_bars false is = by_risk is

  -- an exchange that would accept it is kept
  effect_kept : IsKept exchange → IsWithin command → refusal_of exchange command ≡ None → IsKept next
  effect_kept kept within none =
      subst (λ (r : Option Refusal). IsKept (option_map_or (refusal_effect exchange) r (effect exchange command)).1) none (step_keeps exchange command kept within)

  kept_above : IsKept exchange → IsWithin command → kept_from state command ≡ Some need → IsAboveTrue next account need
  kept_above kept within is =
      let now = by_bars (bars state.serving.closed exchange command) is in
      subst (IsAboveTrue next account) now.needed (above_true next account (effect_kept kept within now.accepted))

needs_are_enough : (state : SecuredState) → IsSound state.serving.proposing → NeedsAreEnough state
needs_are_enough state sound = record {
  told = λ account. above_true (exchange_in state) account sound.kept;
  kept = λ line command account need says risk is.
      let within = subst (λ (r : Result Request Fault). IfOk r RequestIsWithin) says (said_is_within SERVED line) in
      kept_above state command account need risk sound.kept within is;
}

pub served_needs_are_enough : (lines : List InputLine) → NeedsAreEnough (state_by_lines empty_secured lines)
served_needs_are_enough lines = needs_are_enough (state_by_lines empty_secured lines) (lines_sound empty_secured lines empty_is_sound)
