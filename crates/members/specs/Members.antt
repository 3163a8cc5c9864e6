-- The members: who owns what, what each session may say, and how much it may use.
use Rattle.std.specs.Prelude.{ℕ, ◌+◌, ◌<◌, Bool, false, not, ◌&&◌, ◌||◌, List, [], ◌∷◌, ◌++◌, nat_eq, nat_le, Option, is_some, unwrap_or, if◌then◌else◌}
use Rattle.std.specs.Map.{lookup}
use Rattle.std.specs.Option.{option_map_or}
use Rattle.indexmap.specs.IndexMap.{insert_entry}
use Rattle.form.specs.declared.orders.Order.{Order}
use Rattle.command_text.specs.declared.command.Command.{Command}
use Rattle.command_text.specs.declared.command.Command.TheVariants.{Open, Deposit, Withdraw, Market, Trade, Bundle, Cancel, Clear, Settle, Balance}
use Rattle.command_text.specs.declared.requests.Request.{Request}
use Rattle.command_text.specs.declared.requests.Request.TheVariants as asks
use Rattle.order_book.specs.Book.{BookState, is_trading, live_of}
use Rattle.reply_print.specs.declared.replies.Reply.{Reply}
use Rattle.reply_print.specs.declared.replies.Reply.TheVariants as reply
use Rattle.exchange_core.specs.ExchangeState.{ExchangeState}
use Rattle.members.specs.Rule.{account_of, asker_of, is_among, is_operator, sender_of, word_of}
use Rattle.members.specs.declared.counts.Counted.{Counted}
use Rattle.members.specs.declared.quota.TheConstants.{MAX_OPENED, MAX_OWN_LIVE, MAX_PLACED}

-- each account that a session opened, with the session, in the order in which they were opened
abbrev pub Owned : Type 0
Owned = List (ℕ × ℕ)

-- what is counted of each session
abbrev pub AllCounted : Type 0
AllCounted = List (ℕ × Counted)

pub record MembersState : Type 0 where
  pub owners : Owned
  pub counts : AllCounted

abbrev pub no_members : MembersState
no_members = record { owners = []; counts = [] }

-- ---- owners
abbrev pub owner_of : Owned → ℕ → Option ℕ
owner_of owners account = lookup (nat_eq account) owners

abbrev pub owns : Owned → ℕ → ℕ → Bool
owns owners session account = option_map_or (nat_eq session) (owner_of owners account) false

-- the account that a line names is the session's
abbrev pub owns_named : Owned → ℕ → Option ℕ → Bool
owns_named owners session account = option_map_or (owns owners session) account false

-- an account more has its owner; one that has an owner keeps it
abbrev pub with_owner : Owned → ℕ → ℕ → Owned
with_owner owners account session = if is_some (owner_of owners account) then owners else owners ++ (account, session) ∷ []

-- ---- the rule
abbrev pub is_allowed : Owned → ℕ → Request → Bool
is_allowed owners session request = is_among (sender_of (word_of request)) session (owns_named owners session (account_of request))

-- the same of what is asked
abbrev pub may_ask : Owned → ℕ → Request → Bool
may_ask owners session request = is_among (asker_of (word_of request)) session (owns_named owners session (account_of request))

-- ---- what a session used
abbrev pub none_counted : Counted
none_counted = record { opened = 0; placed = 0 }

abbrev pub counted_of : AllCounted → ℕ → Counted
counted_of counts session = unwrap_or (lookup (nat_eq session) counts) none_counted

-- fewer than a limit
pub record AreFew (limit : ℕ) (counts : AllCounted) (session : ℕ) : Type 0 where
  pub opened : (counted_of counts session).opened < limit
  pub placed : (counted_of counts session).placed < limit

-- 1 for an order of an account of the session
abbrev pub own_one : Owned → ℕ → Order → ℕ
own_one owners session order = if owns owners session order.account then 1 else 0

-- how many of the orders are of accounts of the session
abbrev pub own_live : Owned → ℕ → List Order → ℕ
own_live owners session [] = 0
own_live owners session (order ∷ orders) = own_one owners session order + own_live owners session orders

-- the accounts of the session have as many live orders in a market as they may; a settled market
-- has none
abbrev pub has_own_live : Owned → BookState → ℕ → ℕ → Bool
has_own_live owners book session market = is_trading book market && nat_le MAX_OWN_LIVE (own_live owners session (live_of book market))

-- the session may place no order more in a market
abbrev pub has_placed : MembersState → BookState → ℕ → ℕ → Bool
has_placed members book session market =
    nat_le MAX_PLACED (counted_of members.counts session).placed || has_own_live members.owners book session market

-- a command asks for more than a session may use
abbrev pub uses_up : MembersState → ExchangeState → ℕ → Command → Bool
uses_up members exchange session (Open account) = nat_le MAX_OPENED (counted_of members.counts session).opened
uses_up members exchange session (Deposit account amount) = false
uses_up members exchange session (Withdraw account amount) = false
uses_up members exchange session (Market market underlyings) = false
uses_up members exchange session (Trade side account market kind strike price quantity count weights) = has_placed members exchange.book session market
uses_up members exchange session (Bundle side account market price quantity bundle) = has_placed members exchange.book session market
uses_up members exchange session (Cancel account order) = false
uses_up members exchange session (Clear market budget) = false
uses_up members exchange session (Settle market count prices) = false
uses_up members exchange session (Balance account) = false

-- the same of what a session says; the operator's have no limit
abbrev pub is_over : MembersState → ExchangeState → ℕ → Request → Bool
is_over members exchange session (asks.Command command) = not (is_operator session) && uses_up members exchange session command
is_over members exchange session (asks.Quote request) = false
is_over members exchange session (asks.Price request) = false
is_over members exchange session (asks.Try request) = false
is_over members exchange session (asks.Margin request) = false
is_over members exchange session (asks.Book market) = false
is_over members exchange session (asks.Positions account market) = false
is_over members exchange session (asks.Secure account) = false
is_over members exchange session (asks.Need account) = false
is_over members exchange session (asks.Close market) = false
is_over members exchange session (asks.Reopen market) = false
is_over members exchange session (asks.Propose request) = false

-- ---- what an answer does
-- an account more is the session's
abbrev pub with_opened : MembersState → ℕ → ℕ → MembersState
with_opened members session account =
    let counted = counted_of members.counts session in
    record {
      owners = with_owner members.owners account session;
      counts = insert_entry nat_eq members.counts session (record counted { opened = counted.opened + 1 });
    }

-- an order more is placed by the session
abbrev pub with_placed : MembersState → ℕ → MembersState
with_placed members session =
    let counted = counted_of members.counts session in
    record {
      owners = members.owners;
      counts = insert_entry nat_eq members.counts session (record counted { placed = counted.placed + 1 });
    }

abbrev pub after_reply : MembersState → ℕ → Reply → MembersState
after_reply members session (reply.Opened account) = with_opened members session account
after_reply members session (reply.Deposited account balance) = members
after_reply members session (reply.Withdrawn account balance) = members
after_reply members session (reply.Listed market underlyings) = members
after_reply members session (reply.Placed order) = with_placed members session
after_reply members session (reply.Cancelled order) = members
after_reply members session (reply.Cleared number market batch outcome) = members
after_reply members session (reply.Settled market lapsed payouts) = members
after_reply members session (reply.Balance account balance reserved) = members
after_reply members session (reply.Refused number field) = members
