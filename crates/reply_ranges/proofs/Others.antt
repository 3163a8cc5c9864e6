-- What is written for what a line says where nothing is read or proposed is sound.
use Rattle.std.proofs.Common.{◌≡◌, ℕ, List, [], ◌∷◌, Bool, true, false, ◌||◌, Option, Some, None, Result, Ok, Err, if◌then◌else◌, refl, arith}
use Rattle.std.specs.Prelude.{IfOk, IfSome}
use Rattle.std.specs.List.{All}
use Rattle.std.specs.Option.{option_map_or}
use Rattle.std.proofs.lemmas.List.Elements.{All-append, All-from_recursion}
use Rattle.proposal_lines.specs.AllKinds.{said_reply}
use Rattle.proposal_text.specs.Needs.{IsNeedWithin}
use Rattle.proposal_text.specs.Within.{IsPriceWithin}
use Rattle.proposal_text.specs.declared.prices.QuotedPrice.TheVariants as price
use Rattle.proposal_text.specs.declared.replies.ProposalReply.TheVariants as told
use Rattle.proposal_text.specs.declared.replies.ServedReply.{ServedReply}
use Rattle.proposal_text.specs.declared.replies.ServedReply.TheVariants.{Plain, Told}
use Rattle.command_text.specs.declared.command.Body.{Body}
use Rattle.command_text.specs.declared.command.Body.TheVariants as body
use Rattle.command_text.specs.declared.command.Command.{Command}
use Rattle.command_text.specs.declared.command.Command.TheVariants.{Open, Deposit, Withdraw, Market, Trade, Bundle, Cancel, Clear, Settle, Balance}
use Rattle.command_text.specs.Within.{BodyIsWithin, IsMarginWithin, IsQuoteWithin, RequestIsWithin}
use Rattle.exchange_core.specs.declared.refusal.Refusal.{Refusal}
use Rattle.exchange_core.specs.declared.refusal.Refusal.TheVariants as refusal
use Rattle.exchange_core.specs.ExchangeState.{ExchangeState}
use Rattle.exchange_core.specs.LineReplies.{reply_to}
use Rattle.exchange_core.specs.Reply.{refused_with}
use Rattle.exchange_core.specs.Step.{batch_in}
use Rattle.exchange_lines.proofs.Answered.{promises_kept}
use Rattle.form.specs.Between.{Between}
use Rattle.form.specs.declared.limits.TheConstants.{MAX_QUANTITY}
use Rattle.form.specs.declared.orders.Batch.{Batch}
use Rattle.form.specs.declared.orders.Order.{Order}
use Rattle.form.specs.declared.orders.Side.{Side}
use Rattle.form.specs.declared.orders.Side.TheVariants.{Buy, Sell}
use Rattle.command_text.specs.declared.asked.Fault.{Fault}
use Rattle.command_text.specs.declared.asked.Fault.TheVariants.{Syntax, Range}
use Rattle.command_text.specs.declared.requests.MarginRequest.{MarginRequest}
use Rattle.proposal_text.specs.declared.needs.Need.{Need}
use Rattle.guarded_lines.specs.Margins.{margin_refusals, market_refusals, run_in, told_of}
use Rattle.guarded_lines.specs.Needs.{need_in}
use Rattle.guarded_lines.specs.Replies.{covered_reply_to, guarded_reply_to, plain_reply_to}
use Rattle.guarded_lines.specs.Withdrawals.{covers, is_refused, left_in, uncovered_by, uncovered_command}
use Rattle.option_quotes.specs.declared.prices.MarketPrices.{MarketPrices}
use Rattle.option_quotes.specs.declared.prices.MarketPrices.TheVariants as market
use Rattle.option_quotes.specs.declared.prices.SidePrice.{SidePrice}
use Rattle.option_quotes.specs.declared.prices.SidePrice.TheVariants as side
use Rattle.option_quotes.specs.declared.quotes.Quoted.{Quoted}
use Rattle.option_quotes.specs.declared.quotes.Quoted.TheVariants as quoted
use Rattle.option_quotes.specs.ByProbes.{quoted_of}
use Rattle.option_quotes.specs.Implied.{asked, prices_of}
use Rattle.option_quotes.specs.Probes.{further}
use Rattle.option_quotes.specs.Thresholds.{MayBeQuoted, TellPrices, Tells, TellsSide}
use Rattle.option_quotes.proofs.Found.{implied_prices_are_thresholds}
use Rattle.option_quotes.proofs.Thresholds.{quotes_are_thresholds}
use Rattle.order_book.specs.declared.market.MarketInfo.{MarketInfo}
use Rattle.order_book.specs.Book.{info_in}
use Rattle.command_text.specs.declared.requests.QuoteRequest.{QuoteRequest}
use Rattle.command_text.specs.declared.requests.Request.{Request}
use Rattle.command_text.specs.declared.requests.Request.TheVariants as asks
use Rattle.quote_lines.specs.Refusals.{info_refusals, quote_refusals}
use Rattle.quote_lines.specs.Replies.{asked_reply, price_of, prices_told, quoted_price, side_told, told_for}
use Rattle.quote_lines.proofs.MayQuote.{live_may}
use Rattle.lists.specs.Refusals.{first_of}
use Rattle.lists.proofs.FirstRefusal.{none_in_both}
use Rattle.reply_print.specs.Within.{IsLine}
use Rattle.reply_ranges.specs.Laws.{HasField}
use Rattle.reply_ranges.proofs.Fields.{IsPlacedIn}
use Rattle.reply_ranges.proofs.Refusals.{IsOne, IsTold, first_told}
use Rattle.reply_ranges.proofs.States.{IsStanding, reply_within}
use Rattle.reply_ranges.proofs.Margins.{margin_within, need_within}
use Rattle.reply_ranges.proofs.Texts.{IsServedReply, proposal_text, run_text}

-- ---- prices
quote_price : (batch : Batch) (order : Order) (budget : ℕ) (told : Quoted) → Tells batch order budget told → IsPriceWithin (price_of told)
quote_price batch order budget (quoted.At price raising beside base) tells = tells.0.0
quote_price batch order budget (quoted.Never extreme base) tells = tt
quote_price batch order budget (quoted.Unmarked probe outcome) tells = tt

side_price : (batch : Batch) (order : Order) (budget : ℕ) (told : SidePrice) → TellsSide batch order budget told → IsPriceWithin (side_told told)
side_price batch order budget (side.At price raising beside) tells = tells.0.0
side_price batch order budget (side.Never extreme) tells = tt
side_price batch order budget (side.Unmarked price outcome) tells = tt
side_price batch order budget side.Spent tells = tt

-- ---- refusals
pub info_told : (info : Option MarketInfo) (request : QuoteRequest) → All IsOne (info_refusals info request)
info_told None request = All-from_recursion IsOne (info_refusals None request) (((omega arith, omega arith), refl), tt)
info_told (Some info) request =
    All-from_recursion IsOne (info_refusals (Some info) request) (((omega arith, omega arith), refl), (((omega arith, omega arith), refl), (((omega arith, omega arith), refl), tt)))

market_told : (info : Option MarketInfo) → All IsOne (market_refusals info)
market_told None = All-from_recursion IsOne (market_refusals None) (((omega arith, omega arith), refl), tt)
market_told (Some info) = All-from_recursion IsOne (market_refusals (Some info)) (((omega arith, omega arith), refl), tt)

-- one refusal more
pub one_told : (holds : Bool) (refusal : Refusal) → IsTold refusal → All IsOne ((holds, refusal) ∷ [])
one_told holds refusal is = All-from_recursion IsOne ((holds, refusal) ∷ []) (is, tt)

two_told : (holds also : Bool) (refusal next : Refusal) → IsTold refusal → IsTold next → All IsOne ((holds, refusal) ∷ (also, next) ∷ [])
two_told holds also refusal next is are = All-from_recursion IsOne ((holds, refusal) ∷ (also, next) ∷ []) (is, (are, tt))

-- ---- needs
module _ (state : ExchangeState) where
  abbrev IsUncovered : Option Need → Type 0
  IsUncovered need = IfSome need IsNeedWithin

  withdrawal_need : (account amount : ℕ) → IsUncovered (uncovered_command state (Withdraw account amount))
  withdrawal_need account amount =
      elim (is_refused state account amount || covers (need_in state account) (left_in state account amount)) as (λ b. IsUncovered (if b then None else Some (need_in state account))) [
        | true ↦ tt
        | false ↦ need_within state account
      ]

  command_need : (command : Command) → IsUncovered (uncovered_command state command)
  command_need (Open account) = tt
  command_need (Deposit account amount) = tt
  command_need (Withdraw account amount) = withdrawal_need account amount
  command_need (Market market underlyings) = tt
  command_need (Trade side account market kind strike price quantity count weights) = tt
  command_need (Bundle side account market price quantity bundle) = tt
  command_need (Cancel account order) = tt
  command_need (Clear market budget) = tt
  command_need (Settle market count prices) = tt
  command_need (Balance account) = tt

  said_need : (said : Body) → IsUncovered (uncovered_by state said)
  said_need (body.Command command) = command_need command
  said_need body.Syntax = tt
  said_need (body.Range field) = tt

-- ---- the lines
module _ (number : ℕ) (is_line : IsLine number) (state : ExchangeState) (stands : IsStanding number state) where
  pub refusal_served : (first : Refusal) → IsTold first → IsServedReply number (Plain (refused_with first))
  refusal_served first is = run_text number (refused_with first) (is_line, is) tt

  -- one of these refusals
  pub first_served : (refusals : List (Bool × Refusal)) (first : Refusal) → All IsOne refusals → first_of refusals ≡ Some first → IsServedReply number (Plain (refused_with first))
  first_served refusals first told is = refusal_served first (first_told refusals first told is)

  -- one of these, or else this
  pub unless_served : (refusals : List (Bool × Refusal)) (reply : ServedReply) → All IsOne refusals → (first_of refusals ≡ None → IsServedReply number reply)
      → IsServedReply number (option_map_or (λ first. Plain (refused_with first)) (first_of refusals) reply)
  unless_served refusals reply are_told is = by (first_of refusals) refl
    where
      by : (r : Option Refusal) → first_of refusals ≡ r → IsServedReply number (option_map_or (λ first. Plain (refused_with first)) r reply)
      by (Some first) e = first_served refusals first are_told e
      by None none = is none

  pub run_served : (said : Body) → BodyIsWithin said → HasField said → IsServedReply number (Plain (reply_to state said).0)
  run_served said within field =
      run_text number (reply_to state said).0 (is_line, reply_within number state stands is_line said within field)
      (promises_kept state (record { number = number; body = said }) stands.running.kept).judged

  -- what is told of the live orders of a market
  told_served : (request : QuoteRequest) (quantity : Option ℕ) → IsQuoteWithin request → IfSome quantity (Between 1 MAX_QUANTITY) → MayBeQuoted (batch_in state request.market) request.form
      → IsServedReply number (Told (told_for (batch_in state request.market) request quantity))
  told_served request None within some may =
      let batch = batch_in state request.market in
      let within_side : (s : Side) → IsPriceWithin (quoted_price batch request s) = λ s.
      let order = further request.form s in
      quote_price batch order request.budget (quoted_of batch order request.budget) (quotes_are_thresholds batch request.form s request.budget may) in
      proposal_text number (told.Quoted request.market (quoted_price batch request Buy) (quoted_price batch request Sell)) (is_line, (within.market, within_side Buy, within_side Sell)) tt
  told_served request (Some quantity) within some may =
      by (prices_of batch request.form quantity request.budget) (implied_prices_are_thresholds batch request.form quantity request.budget may some.0 some.1)
    where
      batch : Batch
      batch = batch_in state request.market

      by : (prices : MarketPrices) → TellPrices batch request.form quantity request.budget prices → IsServedReply number (Told (prices_told request.market quantity prices))
      by (market.Marked base ask bid) tells =
          proposal_text number (told.Priced request.market quantity (side_told ask) (side_told bid))
          (is_line, (within.market, some, side_price batch (asked request.form Buy quantity) request.budget ask tells.0, side_price batch (asked request.form Sell quantity) request.budget bid tells.1)) tt
      by (market.Unmarked base) tells = proposal_text number (told.Priced request.market quantity price.Unmarked price.Unmarked) (is_line, (within.market, some, tt, tt)) tt

  request_served : (request : QuoteRequest) (quantity : Option ℕ) → IsQuoteWithin request → IfSome quantity (Between 1 MAX_QUANTITY)
      → IsServedReply number (asked_reply state request quantity)
  request_served request quantity within some =
      let info = info_in state.book request.market in
      unless_served (quote_refusals state.book request) (Told (told_for (batch_in state request.market) request quantity))
      (All-append IsOne (info_refusals info request) _ (info_told info request) (one_told _ refusal.TooMany ((omega arith, omega arith), refl)))
      (λ none. told_served request quantity within some (live_may state request stands.running.kept within.listed (none_in_both (info_refusals info request) _ none).0))

  plain_served : (said : Body) → BodyIsWithin said → HasField said → IsServedReply number (covered_reply_to state said).0
  plain_served said within field = by (uncovered_by state said) (said_need state said)
    where
      by : (need : Option Need) → IfSome need IsNeedWithin
          → IsServedReply number (option_map_or (λ need. (Told (told.Uncovered need), state)) need (plain_reply_to state said)).0
      by None is = run_served said within field
      by (Some need) is = proposal_text number (told.Uncovered need) (is_line, is) tt

  margin_served : (request : MarginRequest) → IsMarginWithin request → IsServedReply number (guarded_reply_to state (Ok (asks.Margin request))).0
  margin_served request within =
      let info = info_in state.book request.market in
      let reply = told.Margin request.account request.market (told_of (run_in state request.account request.market request.budget)) in
      unless_served (margin_refusals state request) (Told reply)
      (All-append IsOne (market_refusals info) _ (market_told info) (two_told _ _ refusal.NoAccount refusal.TooMany ((omega arith, omega arith), refl) ((omega arith, omega arith), refl)))
      (λ none.
      proposal_text number reply (is_line, (within.account, within.market, margin_within state request.account request.market request.budget stands.running.kept)) tt)

  pub said_served : (said : Result Request Fault) → IfOk said RequestIsWithin → IsPlacedIn said → IsServedReply number (said_reply state said).0
  said_served (Ok (asks.Command command)) within placed = plain_served (body.Command command) within tt
  said_served (Ok (asks.Quote request)) within placed = request_served request None within tt
  said_served (Ok (asks.Price request)) within placed = request_served request.quote (Some request.quantity) within.0 within.1
  said_served (Ok (asks.Margin request)) within placed = margin_served request within
  said_served (Ok (asks.Book market)) within placed = plain_served body.Syntax tt tt
  said_served (Ok (asks.Positions account market)) within placed = plain_served body.Syntax tt tt
  said_served (Ok (asks.Secure account)) within placed = plain_served body.Syntax tt tt
  said_served (Ok (asks.Try request)) within placed = plain_served body.Syntax tt tt
  said_served (Ok (asks.Need account)) within placed = plain_served body.Syntax tt tt
  said_served (Ok (asks.Close market)) within placed = plain_served body.Syntax tt tt
  said_served (Ok (asks.Reopen market)) within placed = plain_served body.Syntax tt tt
  said_served (Ok (asks.Propose request)) within placed = plain_served body.Syntax tt tt
  said_served (Err Syntax) within placed = plain_served body.Syntax tt tt
  said_served (Err (Range field)) within placed = plain_served (body.Range field) tt placed
