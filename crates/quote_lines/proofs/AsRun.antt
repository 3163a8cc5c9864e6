-- Each line is answered as in a run, or changes nothing.
use Rattle.std.proofs.Common.{◌≡◌, ℕ, List, [], ◌∷◌, ◌++◌, Option, Some, None, Result, Ok, Err, true≢false, inl, inr, refl, ap, sym}
use Rattle.std.specs.Option.{option_map_or}
use Rattle.command_text.specs.declared.asked.Fault.{Fault}
use Rattle.command_text.specs.declared.asked.Fault.TheVariants.{Syntax, Range}
use Rattle.command_text.specs.declared.command.Body.{Body}
use Rattle.command_text.specs.declared.requests.PriceRequest.{PriceRequest}
use Rattle.command_text.specs.declared.requests.QuoteRequest.{QuoteRequest}
use Rattle.command_text.specs.declared.requests.Request.{Request}
use Rattle.command_text.specs.declared.requests.Request.TheVariants as asks
use Rattle.command_text.specs.declared.words.TheConstants.{QUOTES}
use Rattle.command_text.specs.Commands.{body_of_line}
use Rattle.command_text.specs.Said.{said_in}
use Rattle.form.specs.declared.orders.Side.TheVariants.{Buy, Sell}
use Rattle.exchange_core.specs.declared.refusal.Refusal.{Refusal}
use Rattle.exchange_core.specs.declared.refusal.Refusal.TheVariants as refusal
use Rattle.exchange_core.specs.ExchangeState.{ExchangeState}
use Rattle.exchange_core.specs.LineReplies.{reply_to}
use Rattle.exchange_core.specs.Reply.{refused_with}
use Rattle.exchange_core.specs.Step.{batch_in}
use Rattle.exchange_lines.specs.LineSteps.{IsAsRun}
use Rattle.exchange_lines.specs.Output.{written_line}
use Rattle.exchange_lines.proofs.AsRun.{output_tells}
use Rattle.option_quotes.specs.declared.prices.MarketPrices.{MarketPrices}
use Rattle.option_quotes.specs.declared.prices.MarketPrices.TheVariants as prices
use Rattle.option_quotes.specs.Implied.{prices_of}
use Rattle.proposal_text.specs.declared.prices.QuotedPrice.TheVariants as price
use Rattle.proposal_text.specs.declared.replies.ServedReply.TheVariants.{Plain, Told}
use Rattle.proposal_text.specs.Pieces.{proposal_line, served_line, written_reply}
use Rattle.quote_lines.specs.Laws.{QuotesAnswerAsRun, QuotesTellAnswers}
use Rattle.quote_lines.specs.Output.{IsPricedText, IsPriceText, IsQuoteText, quotes_line}
use Rattle.lists.specs.Refusals.{first_of}
use Rattle.quote_lines.specs.Refusals.{quote_refusals}
use Rattle.quote_lines.specs.Replies.{prices_told, quoted_price, quotes_reply_to, side_told, told_for}
use Rattle.command_text.proofs.SaidByWords.{asked_by_word, command_to_run}

-- a refusal, or what is told
told_of : (P : ℕ → List ℕ → Type 0) (number : ℕ) (state : ExchangeState) (said : Body) (request : QuoteRequest) (quantity : Option ℕ) (refused : Option Refusal)
    → ((refusal : Refusal) → P number (served_line number (Plain (refused_with refusal)) ++ 10 ∷ []))
    → P number (proposal_line number (told_for (batch_in state request.market) request quantity) ++ 10 ∷ [])
    → IsAsRun P number state said (written_reply number (option_map_or (λ refusal. Plain (refused_with refusal)) refused (Told (told_for (batch_in state request.market) request quantity)), state))
told_of P number state said request quantity (Some refusal) refuses tells = inr (refuses refusal, refl)
told_of P number state said request quantity None refuses tells = inr (tells, refl)

pub quote_told : (number : ℕ) (state : ExchangeState) (said : Body) (request : QuoteRequest) → IsAsRun IsQuoteText number state said (written_reply number (quotes_reply_to state (Ok (asks.Quote request))))
quote_told number state said request =
    let batch = batch_in state request.market in
    told_of IsQuoteText number state said request None (first_of (quote_refusals state.book request)) (λ refusal. inl (refusal, refl))
    (inr (request.market, quoted_price batch request Buy, quoted_price batch request Sell, refl))

-- the prices of so many are written as such
prices_text : (number market quantity : ℕ) (prices : MarketPrices) → IsPricedText number (proposal_line number (prices_told market quantity prices) ++ 10 ∷ [])
prices_text number market quantity (prices.Marked base ask bid) = (market, quantity, side_told ask, side_told bid, refl)
prices_text number market quantity (prices.Unmarked base) = (market, quantity, price.Unmarked, price.Unmarked, refl)

pub prices_told_of : (number : ℕ) (state : ExchangeState) (said : Body) (request : PriceRequest) → IsAsRun IsPriceText number state said (written_reply number (quotes_reply_to state (Ok (asks.Price request))))
prices_told_of number state said request =
    let quote = request.quote in
    told_of IsPriceText number state said quote (Some request.quantity) (first_of (quote_refusals state.book quote)) (λ refusal. inl (refusal, refl))
    (inr (prices_text number quote.market request.quantity (prices_of (batch_in state quote.market) quote.form request.quantity quote.budget)))

said_told : (number : ℕ) (state : ExchangeState) (line : List ℕ) (said : Result Request Fault) → said_in QUOTES line ≡ said
    → IsAsRun IsQuoteText number state (body_of_line line) (written_reply number (quotes_reply_to state said))
said_told number state line (Ok (asks.Command c)) is = inl (ap (λ (b : Body). written_line number (reply_to state b)) (sym (command_to_run QUOTES line c is)))
said_told number state line (Ok (asks.Quote request)) is = quote_told number state (body_of_line line) request
said_told number state line (Ok (asks.Price request)) is = absurd (true≢false (sym (asked_by_word QUOTES line (asks.Price request) is)))
said_told number state line (Ok (asks.Try request)) is = inr (inl (refusal.Syntax, refl), refl)
said_told number state line (Ok (asks.Margin request)) is = inr (inl (refusal.Syntax, refl), refl)
said_told number state line (Ok (asks.Book market)) is = inr (inl (refusal.Syntax, refl), refl)
said_told number state line (Ok (asks.Positions account market)) is = inr (inl (refusal.Syntax, refl), refl)
said_told number state line (Ok (asks.Secure account)) is = inr (inl (refusal.Syntax, refl), refl)
said_told number state line (Ok (asks.Need account)) is = inr (inl (refusal.Syntax, refl), refl)
said_told number state line (Ok (asks.Close market)) is = inr (inl (refusal.Syntax, refl), refl)
said_told number state line (Ok (asks.Reopen market)) is = inr (inl (refusal.Syntax, refl), refl)
said_told number state line (Ok (asks.Propose request)) is = inr (inl (refusal.Syntax, refl), refl)
said_told number state line (Err Syntax) is = inr (inl (refusal.Syntax, refl), refl)
said_told number state line (Err (Range field)) is = inr (inl (refusal.Range field, refl), refl)

pub quotes_answer_as_run : QuotesAnswerAsRun
quotes_answer_as_run number state line = said_told number state line (said_in QUOTES line) refl

pub quotes_tell_answers : QuotesTellAnswers
quotes_tell_answers = output_tells IsQuoteText quotes_line quotes_answer_as_run
