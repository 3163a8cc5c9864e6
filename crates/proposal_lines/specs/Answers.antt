-- What lines are told where proposals are taken.
use Rattle.std.specs.Prelude.{ℕ, ◌≡◌, ◌+◌, ◌⊎◌, ⊤, List, [], ◌∷◌, ◌++◌, Some, None, Ok}
use Rattle.auction_phases.specs.Phases.{ended_by}
use Rattle.proposal_check.specs.Proposals.{proposal_bound}
use Rattle.frac.specs.Range.{limit}
use Rattle.frac.specs.Value.{fraction_of}
use Rattle.frac.specs.declared.frac128.Frac128.{Frac128}
use Rattle.lists.specs.Refusals.{first_of}
use Rattle.order_book.specs.Numbers.{numbers_of}
use Rattle.order_book.specs.Refusals.{live_refusals}
use Rattle.proposals.specs.declared.best.Best.{Best}
use Rattle.option_quotes.specs.Tried.{IsTried}
use Rattle.quote_lines.specs.Laws.{TellsPrices, TellsQuote, tried_order}
use Rattle.quote_lines.specs.Refusals.{quote_refusals}
use Rattle.quote_lines.specs.Replies.{tried_for}
use Rattle.proposal_lines.specs.AllKinds.{IsBesideText}
use Rattle.command_text.specs.declared.command.Body.TheVariants.{Command}
use Rattle.command_text.specs.declared.command.Command.TheVariants.{Clear}
use Rattle.exchange_core.specs.ExchangeState.{ExchangeState}
use Rattle.exchange_lines.specs.LineSteps.{InputLine, line_of}
use Rattle.exchange_lines.specs.Replies.{Answer, answer_to}
use Rattle.exchange_core.specs.LineReplies.{reply_to}
use Rattle.exchange_core.specs.Refusals.{by_book, refusal_of}
use Rattle.exchange_core.specs.Step.{batch_in, cleared_with}
use Rattle.command_text.specs.Commands.{body_of_line}
use Rattle.command_text.specs.Said.{said_in}
use Rattle.command_text.specs.declared.requests.PriceRequest.{PriceRequest}
use Rattle.command_text.specs.declared.requests.ProposeRequest.{ProposeRequest}
use Rattle.command_text.specs.declared.requests.QuoteRequest.{QuoteRequest}
use Rattle.command_text.specs.declared.requests.Request.TheVariants as asks
use Rattle.command_text.specs.declared.requests.TryRequest.{TryRequest}
use Rattle.command_text.specs.declared.words.TheConstants.{SERVED}
use Rattle.form.specs.declared.orders.Batch.{Batch}
use Rattle.exchange_lines.specs.GainRuns.{IfClears}
use Rattle.proposal_text.specs.Pieces.{proposal_line}
use Rattle.proposal_text.specs.declared.replies.BoundedOutcome.{BoundedOutcome}
use Rattle.proposal_text.specs.declared.replies.ProposalReply.{ProposalReply}
use Rattle.proposal_text.specs.declared.replies.ProposalReply.TheVariants as told
use Rattle.reply_print.specs.ReplyPieces.{reply_line}
use Rattle.proposal_lines.specs.Clears.{better_in}
use Rattle.proposal_lines.specs.KeptByMarket.{after_end, with_kept, without_kept}
use Rattle.proposal_lines.specs.Laws.{NoneCounts}
use Rattle.proposal_lines.specs.Output.{proposing_line}
use Rattle.proposal_lines.specs.declared.proposed.Proposed.{Proposed}
use Rattle.proposal_lines.specs.Proposed.{after_proposed, proposed_of, told_bound}
use Rattle.proposal_lines.specs.ProposingState.{ProposingState}
use Rattle.proposal_lines.specs.Trials.{trial_of}

-- ---- of each line
-- a batch that was cleared as proposals had it, in place of the reference run's outcome within the
-- budget
pub record BoundedAnswer : Type 0 where
  pub line : ℕ
  pub market : ℕ
  pub budget : ℕ
  pub number : ℕ
  pub batch : Batch
  pub better : BoundedOutcome

-- a proposal that was judged a bound for a batch, and what is kept for its market after it
pub record TakenAnswer : Type 0 where
  pub line : ℕ
  pub proposed : Proposed
  pub batch : Batch
  pub bound : Frac128
  pub best : Best

-- what is told for a line: a run's answer, such a batch, such a proposal, or a text by which all
-- stays as it is
pub data ProposalAnswer : Type 0 where
  replied : Answer → ProposalAnswer
  bounded : BoundedAnswer → ProposalAnswer
  taken : TakenAnswer → ProposalAnswer
  beside : (line : ℕ) (text : List ℕ) → ProposalAnswer

abbrev pub told_text : ProposalAnswer → List ℕ
told_text (replied answer) = reply_line answer.line answer.reply ++ 10 ∷ []
told_text (bounded answer) = proposal_line answer.line (told.Bounded answer.number answer.market answer.batch answer.better) ++ 10 ∷ []
told_text (taken answer) = proposal_line answer.line (told_bound answer.proposed answer.bound answer.best) ++ 10 ∷ []
told_text (beside line text) = text

abbrev pub told_texts : List ProposalAnswer → List ℕ
told_texts [] = []
told_texts (answer ∷ more) = told_text answer ++ told_texts more

-- ---- texts beside these
-- a reply that neither takes a proposal nor clears as proposals had it
abbrev pub TakesNothing : ProposalReply → Type 0
TakesNothing (told.Book market batch) = ⊤
TakesNothing (told.Positions account market positions) = ⊤
TakesNothing (told.Proposed market surplus bound best_surplus least_bound) = ⊥
TakesNothing (told.Bounded number market batch outcome) = ⊥
TakesNothing told.Stale = ⊤
TakesNothing (told.Unproved failed) = ⊤
TakesNothing (told.Closed market orders) = ⊤
TakesNothing (told.Reopened market) = ⊤
TakesNothing told.MarketIsClosed = ⊤
TakesNothing told.MarketIsOpen = ⊤
TakesNothing (told.Secured account need) = ⊤
TakesNothing (told.Needs needed) = ⊤
TakesNothing (told.Uncovered need) = ⊤
TakesNothing (told.Quoted market bid ask) = ⊤
TakesNothing (told.Priced market quantity ask bid) = ⊤
TakesNothing (told.Margin account market margin) = ⊤
TakesNothing (told.Tried market trial) = ⊤
TakesNothing (told.Barred bar) = ⊤

-- a text is the line of such a reply, with its line feed
abbrev pub IsToldText : ℕ → List ℕ → Type 0
IsToldText number text = (reply : ProposalReply) × TakesNothing reply × (text ≡ proposal_line number reply ++ 10 ∷ [])

-- or one that is written where no proposals are taken: of a quote, of prices, of a margin or of a
-- refusal
abbrev pub IsBesideProposals : ℕ → List ℕ → Type 0
IsBesideProposals number text = IsBesideText number text ⊎ IsToldText number text

-- ---- of an input
-- the answer is a run's to what the line says. Where it clears a batch whose run stopped, nothing
-- is kept that counts; where it clears or settles a market, what is kept for it is let go of
pub record IsRepliedFor (state : ProposingState) (line : InputLine) (answer : Answer) (after : ProposingState) : Type 0 where
  pub reply : answer ≡ answer_to state.exchange (line_of line)
  pub uncounted : IfClears (λ number market batch outcome. NoneCounts state market outcome) answer.reply
  pub exchange : after.exchange ≡ (reply_to state.exchange (body_of_line line.bytes)).1
  pub kept : after.kept ≡ after_end state.kept (ended_by answer.reply)

-- the line says to clear the market within the budget, and it is not refused; the market's batch is
-- cleared with what takes the place of the run's outcome, and what is kept for it is let go of
pub record IsBoundedFor (state : ProposingState) (line : InputLine) (answer : BoundedAnswer) (after : ProposingState) : Type 0 where
  pub of_line : answer.line ≡ line.number
  pub says : body_of_line line.bytes ≡ Command (Clear answer.market answer.budget)
  pub accepted : refusal_of state.exchange (Clear answer.market answer.budget) ≡ None
  pub number : answer.number ≡ state.exchange.book.finished + 1
  pub batch : answer.batch ≡ batch_in state.exchange answer.market
  pub better : better_in state answer.market answer.budget ≡ Some answer.better
  pub exchange : after.exchange ≡ cleared_with state.exchange answer.market answer.better.proposal.fills
  pub kept : after.kept ≡ without_kept answer.market state.kept

-- the line proposes this for just the live orders of a market that is there and not settled, it is
-- judged by the sums of the verdict and proves this bound, and what is kept of it and of what was
-- kept before is told
pub record IsTakenFor (state : ProposingState) (line : InputLine) (answer : TakenAnswer) (after : ProposingState) : Type 0 where
  pub of_line : answer.line ≡ line.number
  pub request : ProposeRequest
  pub says : said_in SERVED line.bytes ≡ Ok (asks.Propose request)
  pub proposes : proposed_of line.bytes request ≡ Ok answer.proposed
  pub accepted : first_of (by_book (live_refusals state.exchange.book answer.proposed.market)) ≡ None
  pub batch : answer.batch ≡ batch_in state.exchange answer.proposed.market
  pub orders : answer.proposed.submission.orders ≡ numbers_of answer.batch.orders
  pub judged : proposal_bound limit answer.batch answer.proposed.submission.proposal ≡ Ok (fraction_of answer.bound)
  pub best : answer.best ≡ after_proposed state.kept answer.proposed answer.bound
  pub exchange : after.exchange ≡ state.exchange
  pub kept : after.kept ≡ with_kept answer.proposed.market answer.best state.kept

-- the text is none of a batch that is cleared or of a proposal that is taken, and all stays as it is
pub record IsBesideFor (state : ProposingState) (line : InputLine) (number : ℕ) (text : List ℕ) (after : ProposingState) : Type 0 where
  pub of_line : number ≡ line.number
  pub of_kind : IsBesideProposals number text
  pub exchange : after.exchange ≡ state.exchange
  pub kept : after.kept ≡ state.kept

-- what a line is told in a state, and the state after it
abbrev pub IsToldFor : ProposingState → InputLine → ProposalAnswer → ProposingState → Type 0
IsToldFor state line (replied answer) after = IsRepliedFor state line answer after
IsToldFor state line (bounded answer) after = IsBoundedFor state line answer after
IsToldFor state line (taken answer) after = IsTakenFor state line answer after
IsToldFor state line (beside number text) after = IsBesideFor state line number text after

-- what is written is a tried line, of what a clear of the live orders with the order at their end
-- tells: its fills cover its surplus, and the order's is from 0 to its quantity; and the exchange is
-- as it was
abbrev pub TellsTrial : ℕ → ExchangeState → TryRequest → List ℕ × ExchangeState → Type 0
TellsTrial number state request written =
    (let batch = batch_in state request.quote.market in
    let tried = tried_for batch request in
    (written ≡ (proposal_line number (told.Tried request.quote.market (trial_of tried)) ++ 10 ∷ [], state)) × IsTried batch (tried_order request) tried)

-- a line that asks for a quote, or for prices, and meets no refusal is told prices from which on a
-- further order raises the greatest surplus of the live orders; one that tries an order is told what
-- a clear with it tells
pub record TellsAsked (state : ProposingState) (line : InputLine) (written : List ℕ × ExchangeState) : Type 0 where
  pub quote : (request : QuoteRequest) → said_in SERVED line.bytes ≡ Ok (asks.Quote request) → first_of (quote_refusals state.exchange.book request) ≡ None
      → TellsQuote line.number state.exchange request written
  pub prices : (request : PriceRequest) → said_in SERVED line.bytes ≡ Ok (asks.Price request) → first_of (quote_refusals state.exchange.book request.quote) ≡ None
      → TellsPrices line.number state.exchange request written
  pub trial : (request : TryRequest) → said_in SERVED line.bytes ≡ Ok (asks.Try request) → first_of (quote_refusals state.exchange.book request.quote) ≡ None
      → TellsTrial line.number state.exchange request written

-- the state after lines, from one on, by a way of answering
abbrev pub state_by : {S : Type 0} → (ℕ → S → List ℕ → List ℕ × S) → S → List InputLine → S
state_by step state [] = state
state_by step state (line ∷ lines) = state_by step (step line.number state line.bytes).1 lines

abbrev pub state_by_lines : ProposingState → List InputLine → ProposingState
state_by_lines = state_by proposing_line

-- a way of answering over states in which an exchange stands that takes proposals
module _ {S : Type 0} (proposing : S → ProposingState) (step : ℕ → S → List ℕ → List ℕ × S) where
  -- one answer for each line, in order, each in the state that the lines before it left
  abbrev pub AreToldFor : S → List InputLine → List ProposalAnswer → Type 0
  AreToldFor state [] answers = answers ≡ []
  AreToldFor state (line ∷ lines) [] = ⊥
  AreToldFor state (line ∷ lines) (answer ∷ answers) =
      let now = step line.number state line.bytes in
      IsToldFor (proposing state) line answer (proposing now.1) × (now.0 ≡ told_text answer)
      × TellsAsked (proposing state) line (told_text answer, (proposing now.1).exchange) × AreToldFor now.1 lines answers
