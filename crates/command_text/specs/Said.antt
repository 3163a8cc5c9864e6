-- What a line says where some words may begin it.
use Rattle.std.specs.Prelude.{ℕ, List, Option, Some, None, Result, Ok, Err, if◌then◌else◌}
use Rattle.std.specs.List.{list_any}
use Rattle.form.specs.declared.orders.Side.TheVariants.{Buy, Sell}
use Rattle.command_text.specs.declared.asked.Fault.{Fault}
use Rattle.command_text.specs.declared.asked.Fault.TheVariants.{Syntax}
use Rattle.command_text.specs.declared.command.Command.{Command}
use Rattle.command_text.specs.declared.requests.Request.{Request}
use Rattle.command_text.specs.declared.requests.Request.TheVariants as request
use Rattle.command_text.specs.declared.words.LineWord.{LineWord}
use Rattle.command_text.specs.declared.words.LineWord.TheVariants as word
use Rattle.command_text.specs.Asked.{text_of}
use Rattle.command_text.specs.Bundles.{bundle_command}
use Rattle.command_text.specs.Fields.{fields_of_line}
use Rattle.command_text.specs.Requests.{book_request, close_request, margin_request, need_request, positions_request, price_request, propose_request, proposed_text, quote_request, reopen_request, secure_request, try_request}
use Rattle.command_text.specs.Trades.{balance_command, cancel_command, clear_command, deposit_command, market_command, open_command, settle_command, trade_command, with_some, withdraw_command}
use Rattle.command_text.specs.Words.{is_propose, word_among}

abbrev pub as_command : Result Command Fault → Result Request Fault
as_command (Ok command) = Ok (request.Command command)
as_command (Err fault) = Err fault

-- by the word. A proposal is no list of fields, so its word as a field says nothing
abbrev pub said_by : LineWord → List (List ℕ) → Result Request Fault
said_by word.Open fields = as_command (open_command fields)
said_by word.Deposit fields = as_command (deposit_command fields)
said_by word.Withdraw fields = as_command (withdraw_command fields)
said_by word.Market fields = as_command (market_command fields)
said_by word.Buy fields = as_command (trade_command Buy fields)
said_by word.Sell fields = as_command (trade_command Sell fields)
said_by word.Bundle fields = as_command (bundle_command fields)
said_by word.Cancel fields = as_command (cancel_command fields)
said_by word.Clear fields = as_command (clear_command fields)
said_by word.Settle fields = as_command (settle_command fields)
said_by word.Balance fields = as_command (balance_command fields)
said_by word.Quote fields = quote_request fields
said_by word.Price fields = price_request fields
said_by word.Try fields = try_request fields
said_by word.Margin fields = margin_request fields
said_by word.Book fields = book_request fields
said_by word.Positions fields = positions_request fields
said_by word.Secure fields = secure_request fields
said_by word.Need fields = need_request fields
said_by word.Close fields = close_request fields
said_by word.Reopen fields = reopen_request fields
said_by word.Propose fields = Err Syntax

-- the word is the first field
abbrev pub said_by_fields : List LineWord → List (List ℕ) → Result Request Fault
said_by_fields words fields = with_some (word_among words (text_of fields 1)) (λ word. said_by word fields)

-- what stands behind the word of a proposal, where it may begin a line
abbrev pub proposed_in : List LineWord → List ℕ → Option (List ℕ)
proposed_in words line = if list_any is_propose words then proposed_text line else None

-- what a line of these bytes says
abbrev pub said_of : List LineWord → List ℕ → Option (List ℕ) → Result Request Fault
said_of words line (Some text) = propose_request text
said_of words line None = with_some (fields_of_line line) (said_by_fields words)

abbrev pub said_in : List LineWord → List ℕ → Result Request Fault
said_in words line = said_of words line (proposed_in words line)
