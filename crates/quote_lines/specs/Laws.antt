-- What holds of each answer.
use Rattle.std.specs.Prelude.{◌≡◌, ℕ, List, [], ◌∷◌, ◌++◌, Some, None, Ok}
use Rattle.form.specs.declared.orders.Batch.{Batch}
use Rattle.form.specs.declared.orders.Order.{Order}
use Rattle.form.specs.declared.orders.Side.{Side}
use Rattle.form.specs.declared.orders.Side.TheVariants.{Buy, Sell}
use Rattle.option_quotes.specs.Implied.{asked}
use Rattle.option_quotes.specs.Probes.{Probe, first_unmarked, further, probes}
use Rattle.market_laws.specs.Limits.{at_price}
use Rattle.option_quotes.specs.Tried.{IsTried}
use Rattle.option_quotes.specs.Thresholds.{IsUnfound, NeverRaisesGreatest, RaisesGreatestFrom}
use Rattle.exchange_core.specs.ExchangeState.{ExchangeState}
use Rattle.exchange_core.specs.Kept.{IsKept}
use Rattle.exchange_core.specs.Step.{batch_in}
use Rattle.exchange_lines.specs.LineSteps.{AnswersAsRun}
use Rattle.exchange_lines.specs.Promises.{OutputTells}
use Rattle.proposal_text.specs.declared.prices.QuotedPrice.{QuotedPrice}
use Rattle.proposal_text.specs.declared.prices.QuotedPrice.TheVariants.{At, Never, Unmarked}
use Rattle.command_text.specs.Within.{IsPriceWithin, IsQuoteWithin, IsTryWithin}
use Rattle.command_text.specs.declared.requests.PriceRequest.{PriceRequest}
use Rattle.command_text.specs.declared.requests.QuoteRequest.{QuoteRequest}
use Rattle.command_text.specs.declared.requests.Request.TheVariants as asks
use Rattle.command_text.specs.declared.requests.TryRequest.{TryRequest}
use Rattle.proposal_text.specs.declared.replies.ProposalReply.TheVariants.{Quoted, Priced}
use Rattle.proposal_text.specs.Pieces.{proposal_line, written_reply}
use Rattle.lists.specs.Refusals.{first_of}
use Rattle.quote_lines.specs.Output.{IsQuoteText, quotes_line}
use Rattle.quote_lines.specs.Refusals.{quote_refusals}
use Rattle.quote_lines.specs.Replies.{quotes_reply_to, tried_for}

-- each line is answered as in a run, or by a refusal or by what is quoted, and then the exchange is
-- as it was
abbrev pub QuotesAnswerAsRun : Type 0
QuotesAnswerAsRun = AnswersAsRun IsQuoteText quotes_line

-- what is written for an input is the text of the answers to its lines, which keep what is promised
-- and leave the house its gains
abbrev pub QuotesTellAnswers : Type 0
QuotesTellAnswers = OutputTells IsQuoteText quotes_line

-- ---- what a quoted line tells
-- a price: from it on the order raises the greatest surplus of the batch; `never`: at no price;
-- `unmarked`: the first clear that is not marked optimal, of the batch or of the batch with the
-- order at a price, each of at most so many units
abbrev pub TellsPrice : Batch → Order → ℕ → QuotedPrice → Type 0
TellsPrice batch order budget (At price) = RaisesGreatestFrom batch order price
TellsPrice batch order budget Never = NeverRaisesGreatest batch order
TellsPrice batch order budget Unmarked = (probe : Probe) × (first_unmarked (probes batch order budget) ≡ Some probe)

-- of a further order on the side for the option that is asked for, and the live orders of the
-- market
abbrev pub TellsOf : ExchangeState → QuoteRequest → Side → QuotedPrice → Type 0
TellsOf state request side price = TellsPrice (batch_in state request.market) (further request.form side) request.budget price

-- what is written is a quoted line, whose bid tells this of a further buy and whose ask of a further
-- sell, and the exchange is as it was
abbrev pub TellsQuote : ℕ → ExchangeState → QuoteRequest → List ℕ × ExchangeState → Type 0
TellsQuote number state request written =
    (bid : QuotedPrice) × (ask : QuotedPrice) × (written ≡ (proposal_line number (Quoted request.market bid ask) ++ 10 ∷ [], state))
    × TellsOf state request Buy bid × TellsOf state request Sell ask

-- so it is for a line that asks for a quote, whatever words may begin it, and meets no refusal
abbrev pub QuotedLinesAreThresholds : Type 0
QuotedLinesAreThresholds =
    (number : ℕ) (state : ExchangeState) (request : QuoteRequest) → IsKept state → IsQuoteWithin request → first_of (quote_refusals state.book request) ≡ None
    → TellsQuote number state request (written_reply number (quotes_reply_to state (Ok (asks.Quote request))))

-- ---- what a priced line tells
-- a price, or `never`, as above; `unmarked`: the first clear that is not marked optimal, of the
-- batch or of the batch with the order at a price, or the want of a clear more than 60 of a side
abbrev pub TellsImplied : Batch → Order → ℕ → QuotedPrice → Type 0
TellsImplied batch order budget (At price) = RaisesGreatestFrom batch order price
TellsImplied batch order budget Never = NeverRaisesGreatest batch order
TellsImplied batch order budget Unmarked = IsUnfound batch order budget

abbrev pub TellsImpliedOf : ExchangeState → PriceRequest → Side → QuotedPrice → Type 0
TellsImpliedOf state request side price =
    TellsImplied (batch_in state request.quote.market) (asked request.quote.form side request.quantity) request.quote.budget price

-- what is written is a priced line, whose ask tells this of a further buy and whose bid of a further
-- sell, and the exchange is as it was
abbrev pub TellsPrices : ℕ → ExchangeState → PriceRequest → List ℕ × ExchangeState → Type 0
TellsPrices number state request written =
    (ask : QuotedPrice) × (bid : QuotedPrice) × (written ≡ (proposal_line number (Priced request.quote.market request.quantity ask bid) ++ 10 ∷ [], state))
    × TellsImpliedOf state request Buy ask × TellsImpliedOf state request Sell bid

-- so it is for a line that asks for prices and meets no refusal
abbrev pub PricedLinesAreThresholds : Type 0
PricedLinesAreThresholds =
    (number : ℕ) (state : ExchangeState) (request : PriceRequest) → IsKept state → IsPriceWithin request → first_of (quote_refusals state.book request.quote) ≡ None
    → TellsPrices number state request (written_reply number (quotes_reply_to state (Ok (asks.Price request))))

-- ---- what is told of a further order
-- the order that is tried: behind the live ones, of no trader
abbrev pub tried_order : TryRequest → Order
tried_order request = at_price (asked request.quote.form request.side request.quantity) request.price

-- a request that meets no refusal is answered by what a clear of the live orders with this one at
-- their end tells: its fills cover its surplus, and that of the order is from 0 to its quantity
abbrev pub TriedOrdersAreFilled : Type 0
TriedOrdersAreFilled =
    (state : ExchangeState) (request : TryRequest) → IsKept state → IsTryWithin request → first_of (quote_refusals state.book request.quote) ≡ None
    → IsTried (batch_in state request.quote.market) (tried_order request) (tried_for (batch_in state request.quote.market) request)
