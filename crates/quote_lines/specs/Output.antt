-- What is written for a line that may ask for something.
use Rattle.std.specs.Prelude.{◌≡◌, ◌⊎◌, ℕ, List, [], ◌∷◌, ◌++◌}
use Rattle.exchange_core.specs.ExchangeState.{ExchangeState}
use Rattle.exchange_lines.specs.LineSteps.{IsRefusalText}
use Rattle.command_text.specs.Said.{said_in}
use Rattle.command_text.specs.declared.words.TheConstants.{QUOTES}
use Rattle.proposal_text.specs.declared.prices.QuotedPrice.{QuotedPrice}
use Rattle.proposal_text.specs.declared.replies.ProposalReply.TheVariants.{Quoted, Priced}
use Rattle.proposal_text.specs.Pieces.{proposal_line, written_reply}
use Rattle.quote_lines.specs.Replies.{quotes_reply_to}

-- what is written for a line of these bytes that may ask for a quote, and the state after it
abbrev pub quotes_line : ℕ → ExchangeState → List ℕ → List ℕ × ExchangeState
quotes_line number state line = written_reply number (quotes_reply_to state (said_in QUOTES line))

-- a text is the line of what is quoted of some market, with its line feed
abbrev pub IsQuotedText : ℕ → List ℕ → Type 0
IsQuotedText number text = (market : ℕ) × (bid : QuotedPrice) × (ask : QuotedPrice) × (text ≡ proposal_line number (Quoted market bid ask) ++ 10 ∷ [])

-- or of a refusal
abbrev pub IsQuoteText : ℕ → List ℕ → Type 0
IsQuoteText number text = IsRefusalText number text ⊎ IsQuotedText number text

-- the same of the prices of so many
abbrev pub IsPricedText : ℕ → List ℕ → Type 0
IsPricedText number text =
    (market : ℕ) × (quantity : ℕ) × (ask : QuotedPrice) × (bid : QuotedPrice) × (text ≡ proposal_line number (Priced market quantity ask bid) ++ 10 ∷ [])

abbrev pub IsPriceText : ℕ → List ℕ → Type 0
IsPriceText number text = IsRefusalText number text ⊎ IsPricedText number text
