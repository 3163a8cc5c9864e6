-- The reply to a line that may ask for something, and the exchange after it.
use Rattle.std.specs.Prelude.{ℕ, Option, Some, None, Result, Ok, Err}
use Rattle.std.specs.Option.{option_map_or}
use Rattle.form.specs.declared.orders.Batch.{Batch}
use Rattle.form.specs.declared.orders.Side.{Side}
use Rattle.form.specs.declared.orders.Side.TheVariants.{Buy, Sell}
use Rattle.exchange_core.specs.declared.refusal.Refusal.{Refusal}
use Rattle.exchange_core.specs.ExchangeState.{ExchangeState}
use Rattle.exchange_core.specs.Reply.{refused_with}
use Rattle.exchange_core.specs.Step.{batch_in}
use Rattle.exchange_core.specs.LineReplies.{reply_to}
use Rattle.option_quotes.specs.declared.quotes.Quoted.{Quoted}
use Rattle.option_quotes.specs.declared.quotes.Quoted.TheVariants as quoted
use Rattle.option_quotes.specs.ByProbes.{quoted_of}
use Rattle.option_quotes.specs.declared.prices.MarketPrices.{MarketPrices}
use Rattle.option_quotes.specs.declared.prices.MarketPrices.TheVariants as market
use Rattle.option_quotes.specs.declared.prices.SidePrice.{SidePrice}
use Rattle.option_quotes.specs.declared.prices.SidePrice.TheVariants as side
use Rattle.option_quotes.specs.Implied.{prices_of}
use Rattle.option_quotes.specs.Probes.{further}
use Rattle.option_quotes.specs.Tried.{tried_of}
use Rattle.option_quotes.specs.declared.trying.Tried.{Tried}
use Rattle.command_text.specs.Commands.{body_of_said}
use Rattle.command_text.specs.declared.asked.Fault.{Fault}
use Rattle.command_text.specs.declared.requests.QuoteRequest.{QuoteRequest}
use Rattle.command_text.specs.declared.requests.Request.{Request}
use Rattle.command_text.specs.declared.requests.Request.TheVariants as asks
use Rattle.command_text.specs.declared.requests.TryRequest.{TryRequest}
use Rattle.proposal_text.specs.declared.prices.QuotedPrice.{QuotedPrice}
use Rattle.proposal_text.specs.declared.prices.QuotedPrice.TheVariants as told
use Rattle.proposal_text.specs.declared.replies.ProposalReply.{ProposalReply}
use Rattle.proposal_text.specs.declared.replies.ProposalReply.TheVariants.{Quoted as ToldQuote, Priced}
use Rattle.proposal_text.specs.declared.replies.ServedReply.{ServedReply}
use Rattle.proposal_text.specs.declared.replies.ServedReply.TheVariants.{Plain, Told}
use Rattle.lists.specs.Refusals.{first_of}
use Rattle.quote_lines.specs.Refusals.{quote_refusals}

-- the price that a quote tells
abbrev pub price_of : Quoted → QuotedPrice
price_of (quoted.At price raising beside base) = told.At price
price_of (quoted.Never extreme base) = told.Never
price_of (quoted.Unmarked probe outcome) = told.Unmarked

-- the price at which one further order on the side raises the greatest surplus of a batch
abbrev pub quoted_price : Batch → QuoteRequest → Side → QuotedPrice
quoted_price batch request side = price_of (quoted_of batch (further request.form side) request.budget)

abbrev pub quoted_for : Batch → QuoteRequest → ProposalReply
quoted_for batch request = ToldQuote request.market (quoted_price batch request Buy) (quoted_price batch request Sell)

-- the price that a side's probes tell
abbrev pub side_told : SidePrice → QuotedPrice
side_told (side.At price raising beside) = told.At price
side_told (side.Never extreme) = told.Never
side_told (side.Unmarked price outcome) = told.Unmarked
side_told side.Spent = told.Unmarked

abbrev pub prices_told : ℕ → ℕ → MarketPrices → ProposalReply
prices_told number quantity (market.Marked base ask bid) = Priced number quantity (side_told ask) (side_told bid)
prices_told number quantity (market.Unmarked base) = Priced number quantity told.Unmarked told.Unmarked

-- the prices at which a further order for so many raises the greatest surplus of a batch
abbrev pub priced_for : Batch → QuoteRequest → ℕ → ProposalReply
priced_for batch request quantity = prices_told request.market quantity (prices_of batch request.form quantity request.budget)

-- what is told of a batch: a quote, or the prices of so many
abbrev pub told_for : Batch → QuoteRequest → Option ℕ → ProposalReply
told_for batch request None = quoted_for batch request
told_for batch request (Some quantity) = priced_for batch request quantity

-- the first refusal that a request meets, or what is told of the live orders of its market
abbrev pub asked_reply : ExchangeState → QuoteRequest → Option ℕ → ServedReply
asked_reply state request quantity =
    option_map_or (λ refusal. Plain (refused_with refusal)) (first_of (quote_refusals state.book request))
    (Told (told_for (batch_in state request.market) request quantity))

-- ---- a further order
-- the live orders of the market of a request, or the first refusal that it meets
abbrev pub asked_batch : ExchangeState → QuoteRequest → Result Batch Refusal
asked_batch state request =
    option_map_or (λ refusal. Err refusal) (first_of (quote_refusals state.book request)) (Ok (batch_in state request.market))

-- what a clear of the batch would tell of the order at its end
abbrev pub tried_for : Batch → TryRequest → Tried
tried_for batch request = tried_of batch request.quote.form request.side request.quantity request.price request.quote.budget

-- of the live orders of its market; the order stands behind them
abbrev pub tried_reply : ExchangeState → TryRequest → Result Tried Refusal
tried_reply state request =
    option_map_or (λ refusal. Err refusal) (first_of (quote_refusals state.book request.quote)) (Ok (tried_for (batch_in state request.quote.market) request))

-- ---- a line
-- the reply to what a line says, and the exchange after it: a request changes nothing
abbrev pub quotes_reply_to : ExchangeState → Result Request Fault → ServedReply × ExchangeState
quotes_reply_to state (Ok (asks.Quote request)) = (asked_reply state request None, state)
quotes_reply_to state (Ok (asks.Price request)) = (asked_reply state request.quote (Some request.quantity), state)
quotes_reply_to state said = let now = reply_to state (body_of_said said) in (Plain now.0, now.1)
