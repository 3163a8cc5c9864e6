-- Which lines may be asked.
use Rattle.std.specs.Prelude.{Bool, true, false}
use Rattle.command_text.specs.declared.command.Command.{Command}
use Rattle.command_text.specs.declared.command.Command.TheVariants as command
use Rattle.command_text.specs.declared.requests.Request.{Request}
use Rattle.command_text.specs.declared.requests.Request.TheVariants as asks

abbrev pub command_may_be_asked : Command → Bool
command_may_be_asked (command.Balance account) = true
command_may_be_asked said = false

-- those that tell something and change nothing
abbrev pub may_be_asked : Request → Bool
may_be_asked (asks.Command said) = command_may_be_asked said
may_be_asked (asks.Quote request) = true
may_be_asked (asks.Price request) = true
may_be_asked (asks.Try request) = true
may_be_asked (asks.Margin request) = true
may_be_asked (asks.Book market) = true
may_be_asked (asks.Positions account market) = true
may_be_asked (asks.Need account) = true
may_be_asked (asks.Secure account) = false
may_be_asked (asks.Close market) = false
may_be_asked (asks.Reopen market) = false
may_be_asked (asks.Propose request) = false
