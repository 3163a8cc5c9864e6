-- Worked rows: what the rule lets through, and what it refuses.
use Rattle.std.specs.Prelude.{ℕ, zero, suc, pos, ◌≡◌, true, false, List, [], ◌∷◌, None, Some}
use Rattle.form.specs.declared.orders.Order.{Order}
use Rattle.form.specs.declared.orders.Side.TheVariants.{Buy, Sell}
use Rattle.command_text.specs.declared.command.Command.{Command}
use Rattle.command_text.specs.declared.command.Command.TheVariants.{Open, Deposit, Withdraw, Market, Cancel, Clear, Balance}
use Rattle.command_text.specs.declared.command.Kind.TheVariants.{Call}
use Rattle.command_text.specs.declared.requests.MarginRequest.{MarginRequest}
use Rattle.command_text.specs.declared.requests.Request.TheVariants as asks
use Rattle.order_book.specs.Book.{with_number}
use Rattle.reply_print.specs.declared.replies.Reply.TheVariants as reply
use Rattle.exchange_core.specs.declared.refusal.Refusal.TheVariants.{AccountExists}
use Rattle.exchange_core.specs.ExchangeState.{ExchangeState, empty_exchange}
use Rattle.exchange_core.specs.Orders.{order_by}
use Rattle.exchange_core.specs.Refusals.{refusal_of}
use Rattle.exchange_core.specs.Step.{step}
use Rattle.exchange_core.specs.Worked.{opened_market, trade}
use Rattle.members.specs.Laws.{Managed, Said, after_event, managed, refusal_to}
use Rattle.members.specs.Members.{AllCounted, Owned, is_allowed, may_ask, no_members, owner_of}
use Rattle.members.specs.declared.refusal.MemberRefusal.TheVariants.{NotAllowed, Quota}

abbrev pub after_said : Managed → ℕ → Command → Managed
after_said state session command = after_event state (Said session command)

-- an operator's session lists a market, session 12 opens account 7, another of the operator's
-- deposits 10, and session 12 bids 1
abbrev pub listed : Managed
listed = after_said (managed empty_exchange no_members) 1 (Market 1 1)

abbrev pub opened : Managed
opened = after_said listed 12 (Open 7)

abbrev pub paid : Managed
paid = after_said opened 2 (Deposit 7 10)

abbrev pub placed : Managed
placed = after_said paid 12 (trade Buy 7 1 1 1)

abbrev pub own_margin : MarginRequest
own_margin = record { account = 7; market = 1; budget = 100 }

pub record RuleByHand : Type 0 where
  pub owner : owner_of opened.members.owners 7 ≡ Some 12
  pub deposit : refusal_to opened (Said 12 (Deposit 7 10)) ≡ Some NotAllowed
  pub by_operator : (step opened.exchange (Deposit 7 10)).0 ≡ reply.Deposited 7 (pos 10)
  -- another's money and orders
  pub withdraw : refusal_to paid (Said 13 (Withdraw 7 1)) ≡ Some NotAllowed
  pub buy : refusal_to paid (Said 13 (trade Buy 7 1 1 1)) ≡ Some NotAllowed
  pub own_buy : refusal_to paid (Said 12 (trade Buy 7 1 1 1)) ≡ None
  pub order : (step paid.exchange (trade Buy 7 1 1 1)).0 ≡ reply.Placed 1
  pub cancel : refusal_to placed (Said 13 (Cancel 7 1)) ≡ Some NotAllowed
  -- what is told of it
  pub balance : refusal_to placed (Said 13 (Balance 7)) ≡ Some NotAllowed
  pub told : refusal_to placed (Said 1 (Balance 7)) ≡ None
  pub positions : is_allowed placed.members.owners 13 (asks.Positions 7 1) ≡ false
  -- the operator has no account but its own
  pub operator : refusal_to placed (Said 1 (Withdraw 7 1)) ≡ Some NotAllowed
  pub clear : refusal_to placed (Said 12 (Clear 1 100)) ≡ Some NotAllowed
  -- an account that is there is let through, and the exchange refuses it
  pub open_again : refusal_to placed (Said 13 (Open 7)) ≡ None
  pub account_exists : refusal_of placed.exchange (Open 7) ≡ Some AccountExists
  pub owner_stays : owner_of (after_said placed 13 (Open 7)).members.owners 7 ≡ Some 12
  -- the house is the operator's to ask for
  pub house : refusal_to placed (Said 12 (Balance 0)) ≡ Some NotAllowed
  pub house_told : refusal_to placed (Said 9 (Balance 0)) ≡ None
  pub own : refusal_to (after_said placed 1 (Open 8)) (Said 1 (trade Sell 8 1 7 1)) ≡ None
  -- phases are the operator's
  pub close : is_allowed placed.members.owners 12 (asks.Close 1) ≡ false
  pub close_by_operator : is_allowed placed.members.owners 1 (asks.Close 1) ≡ true
  pub reopen : is_allowed placed.members.owners 12 (asks.Reopen 1) ≡ false
  pub reopen_by_operator : is_allowed placed.members.owners 9 (asks.Reopen 1) ≡ true
  -- what holds all others up is asked
  pub margin : is_allowed placed.members.owners 12 (asks.Margin own_margin) ≡ false
  pub margin_asked : may_ask placed.members.owners 12 (asks.Margin own_margin) ≡ true
  pub margin_of_another : may_ask placed.members.owners 13 (asks.Margin own_margin) ≡ false
  pub need : is_allowed placed.members.owners 12 (asks.Need 7) ≡ false
  pub need_asked : may_ask placed.members.owners 12 (asks.Need 7) ≡ true
  pub need_of_another : may_ask placed.members.owners 13 (asks.Need 7) ≡ false
  pub need_by_operator : may_ask placed.members.owners 1 (asks.Need 7) ≡ true
  -- an account is secured by its owner
  pub secure : is_allowed placed.members.owners 12 (asks.Secure 7) ≡ true
  pub secure_another : is_allowed placed.members.owners 13 (asks.Secure 7) ≡ false
  pub secure_by_operator : is_allowed placed.members.owners 1 (asks.Secure 7) ≡ false
  -- one operator's session more than there are
  pub tenth : refusal_to placed (Said 10 (Clear 1 100)) ≡ Some NotAllowed

-- ---- quotas
-- session 12 has account 1, and session 13 account 2
abbrev pub two_owners : Owned
two_owners = (1, 12) ∷ (2, 13) ∷ []

abbrev pub counting : ℕ → ℕ → AllCounted
counting opened placed = (12, record { opened = opened; placed = placed }) ∷ []

abbrev pub counted : ExchangeState → ℕ → ℕ → Managed
counted exchange opened placed = managed exchange (record { owners = two_owners; counts = counting opened placed })

-- so many live orders of account 1
abbrev pub orders_of : ℕ → List Order
orders_of zero = []
orders_of (suc count) = with_number 1 (order_by Buy 1 1 Call (pos 10) 1 1 1 (pos 1 ∷ [])) ∷ orders_of count

abbrev pub with_live_orders : ℕ → ExchangeState
with_live_orders count = record opened_market {
  book = record { markets = (1, record { underlyings = 1; settled = false; live = orders_of count }) ∷ []; accepted = 64; finished = 0 };
}

pub record QuotaByHand : Type 0 where
  pub sixteenth : refusal_to (counted opened_market 15 0) (Said 12 (Open 8)) ≡ None
  pub seventeenth : refusal_to (counted opened_market 16 0) (Said 12 (Open 8)) ≡ Some Quota
  -- before what the exchange would refuse
  pub there : refusal_to (counted opened_market 16 0) (Said 12 (Open 1)) ≡ Some Quota
  pub another : refusal_to (counted opened_market 16 0) (Said 13 (Open 8)) ≡ None
  pub placed : refusal_to (counted opened_market 0 50000) (Said 12 (trade Buy 1 9 1 1)) ≡ Some Quota
  pub below : refusal_to (counted opened_market 0 49999) (Said 12 (trade Buy 1 9 1 1)) ≡ None
  -- behind what is not allowed
  pub not_allowed : refusal_to (counted opened_market 0 50000) (Said 12 (trade Buy 2 1 1 1)) ≡ Some NotAllowed
  pub live : refusal_to (counted (with_live_orders 64) 0 0) (Said 12 (trade Buy 1 1 1 1)) ≡ Some Quota
  pub fewer : refusal_to (counted (with_live_orders 63) 0 0) (Said 12 (trade Buy 1 1 1 1)) ≡ None
  -- each session by itself
  pub others : refusal_to (counted (with_live_orders 64) 0 0) (Said 13 (trade Buy 2 1 1 1)) ≡ None
