-- What is answered to what a line says, of any kind, where nothing is read and no proposals are
-- taken.
use Rattle.std.specs.Prelude.{ℕ, ◌⊎◌, List, Result, Ok}
use Rattle.command_text.specs.declared.asked.Fault.{Fault}
use Rattle.command_text.specs.declared.requests.Request.{Request}
use Rattle.command_text.specs.declared.requests.Request.TheVariants as asks
use Rattle.command_text.specs.declared.words.LineWord.{LineWord}
use Rattle.command_text.specs.Said.{said_in}
use Rattle.exchange_core.specs.ExchangeState.{ExchangeState}
use Rattle.exchange_lines.specs.LineSteps.{LineStep}
use Rattle.guarded_lines.specs.Output.{IsMarginText}
use Rattle.guarded_lines.specs.Replies.{guarded_reply_to}
use Rattle.quote_lines.specs.Output.{IsPriceText, IsQuoteText}
use Rattle.proposal_text.specs.Pieces.{written_reply}
use Rattle.proposal_text.specs.declared.replies.ServedReply.{ServedReply}
use Rattle.quote_lines.specs.Replies.{quotes_reply_to}

-- a quote and prices as `quotes` answers them, and all else as `guarded`
abbrev pub said_reply : ExchangeState → Result Request Fault → ServedReply × ExchangeState
said_reply state (Ok (asks.Quote request)) = quotes_reply_to state (Ok (asks.Quote request))
said_reply state (Ok (asks.Price request)) = quotes_reply_to state (Ok (asks.Price request))
said_reply state said = guarded_reply_to state said

abbrev pub said_line : ℕ → ExchangeState → Result Request Fault → List ℕ × ExchangeState
said_line number state said = written_reply number (said_reply state said)

-- what is written for a line of these bytes, where these words may begin it, and the state after it
abbrev pub all_line : List LineWord → LineStep
all_line words number state line = said_line number state (said_in words line)

-- what is written for a line beside a run's answers
abbrev pub IsBesideText : ℕ → List ℕ → Type 0
IsBesideText number text = IsQuoteText number text ⊎ IsPriceText number text ⊎ IsMarginText number text
