-- Worked rows: what phases answer beside a small exchange.
use Rattle.std.specs.Prelude.{ℕ, ◌≡◌, true, false, List, [], None, Some}
use Rattle.form.specs.declared.orders.Side.TheVariants.{Buy}
use Rattle.command_text.specs.declared.command.Command.TheVariants.{Cancel, Clear, Deposit}
use Rattle.lists.specs.Refusals.{first_of}
use Rattle.exchange_core.specs.declared.refusal.Refusal.TheVariants.{NoMarket, Settled}
use Rattle.exchange_core.specs.ExchangeState.{ExchangeState}
use Rattle.exchange_core.specs.Step.{step}
use Rattle.exchange_core.specs.Worked.{after, at_price, bid, trade}
use Rattle.auction_phases.specs.Phases.{after_reply, bars, with_closed}
use Rattle.auction_phases.specs.Refusals.{close_refusals, reopen_refusals}
use Rattle.auction_phases.specs.declared.refusal.PhaseRefusal.TheVariants.{Exchange, Closed, Open}

-- market 1, in which account 1 has bid, is closed
abbrev pub closed_one : List ℕ
closed_one = with_closed [] 1

-- the same exchange once the market is settled
abbrev pub settled : ExchangeState
settled = after bid (at_price 11)

pub record PhasesByHand : Type 0 where
  -- no order comes or goes, but what the exchange refuses it refuses as ever
  pub order : bars closed_one bid (trade Buy 1 1 7 1) ≡ true
  pub cancel : bars closed_one bid (Cancel 1 1) ≡ true
  pub no_funds : bars closed_one bid (trade Buy 1 1 94 1) ≡ false
  pub anothers : bars closed_one bid (Cancel 2 1) ≡ false
  pub unknown : bars closed_one bid (Cancel 1 9) ≡ false
  pub while_open : bars [] bid (trade Buy 1 1 7 1) ≡ false
  pub deposit : bars closed_one bid (Deposit 1 5) ≡ false
  -- it is closed once, and opened only while it is closed
  pub close : first_of (close_refusals bid [] 1) ≡ None
  pub close_again : first_of (close_refusals bid closed_one 1) ≡ Some Closed
  pub close_unknown : first_of (close_refusals bid [] 9) ≡ Some (Exchange NoMarket)
  pub reopen : first_of (reopen_refusals bid closed_one 1) ≡ None
  pub reopen_again : first_of (reopen_refusals bid [] 1) ≡ Some Open
  -- a clear and a settlement open it, and a settled market is not closed again
  pub cleared : after_reply closed_one (step bid (Clear 1 100)).0 ≡ []
  pub settles : after_reply closed_one (step bid (at_price 11)).0 ≡ []
  pub close_settled : first_of (close_refusals settled [] 1) ≡ Some (Exchange Settled)
