-- What a line is to do of that which is counted of a session, and whether it did: told by the
-- exchange before and after it, so that whatever keeps the line from the exchange is not looked at.
use Rattle.std.specs.Prelude.{ℕ, ◌+◌, Bool, nat_lt, Option, None, Some, Result, Ok, Err, if◌then◌else◌}
use Rattle.std.specs.Option.{option_map_or}
use Rattle.cash_ledger.specs.Ledger.{is_open}
use Rattle.command_text.specs.declared.asked.Fault.{Fault}
use Rattle.command_text.specs.declared.command.Command.{Command}
use Rattle.command_text.specs.declared.command.Command.TheVariants as command
use Rattle.command_text.specs.declared.requests.Request.{Request}
use Rattle.command_text.specs.declared.requests.Request.TheVariants as asks
use Rattle.exchange_core.specs.ExchangeState.{ExchangeState}
use Rattle.exchange_core.specs.Orders.{order_of}
use Rattle.reply_print.specs.declared.replies.Reply.{Reply}
use Rattle.reply_print.specs.declared.replies.Reply.TheVariants as reply
use Rattle.member_lines.specs.declared.aims.Aim.{Aim}
use Rattle.member_lines.specs.declared.aims.Aim.TheVariants.{Open, Place, Other}

abbrev pub is_open_in : ExchangeState → ℕ → Bool
is_open_in exchange account = is_open exchange.accounts account

-- the number that a further order would have
abbrev pub next_order : ExchangeState → ℕ
next_order exchange = exchange.book.accepted + 1

abbrev pub order_aim : ExchangeState → Command → Aim
order_aim exchange said = option_map_or (λ order. Place order (next_order exchange)) (order_of said) Other

abbrev pub command_aim : ExchangeState → Command → Aim
command_aim exchange (command.Open account) = if is_open_in exchange account then Other else Open account
command_aim exchange said = order_aim exchange said

abbrev pub aim_of : ExchangeState → Request → Aim
aim_of exchange (asks.Command said) = command_aim exchange said
aim_of exchange request = Other

-- what is no line with a command does nothing of it
abbrev pub aim_of_said : ExchangeState → Result Request Fault → Aim
aim_of_said exchange (Ok request) = aim_of exchange request
aim_of_said exchange (Err fault) = Other

-- the account that was opened
abbrev pub opened_by : ExchangeState → Aim → Option ℕ
opened_by exchange (Open account) = if is_open_in exchange account then Some account else None
opened_by exchange aim = None

-- as a reply tells it
abbrev pub done_by : ExchangeState → Aim → Option Reply
done_by exchange (Open account) = if is_open_in exchange account then Some (reply.Opened account) else None
done_by exchange (Place order number) = if nat_lt number (next_order exchange) then Some (reply.Placed number) else None
done_by exchange Other = None
