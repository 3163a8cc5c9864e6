-- Proposals and the replies about them within their ranges.
use Rattle.std.specs.Prelude.{ℕ, List, ◌≡◌, ◌≤◌, ◌<◌, ◌^◌, pos, ◌≤ℤ◌, ⊤, length, map}
use Rattle.std.specs.List.{All, AllByRecursion}
use Rattle.std.specs.List.Sorted.{IsStrictlyIncreasing}
use Rattle.cert_check.specs.declared.measures.Measure.{Measure}
use Rattle.exact_num.specs.Fraction.{AtMost, IsNotBelowZero}
use Rattle.form.specs.declared.legs.Leg.{Leg}
use Rattle.form.specs.Between.{Between}
use Rattle.form.specs.declared.limits.TheConstants.{MAX_BUDGET, MAX_ORDERS, MAX_PRICE, MAX_QUANTITY}
use Rattle.form.specs.declared.orders.Order.{Order}
use Rattle.frac.specs.Value.{fraction_of}
use Rattle.frac.specs.declared.frac128.Frac128.{Frac128}
use Rattle.form.specs.Bundles.{legs_in}
use Rattle.form.specs.Limits.{IsListed}
use Rattle.form.specs.Payoff.{option_of}
use Rattle.proposal_check.specs.declared.covers.Proposal.{Proposal}
use Rattle.proposal_check.specs.declared.covers.ProposalCover.{ProposalCover}
use Rattle.proposal_check.specs.declared.covers.ProposalCover.TheVariants.{Checked, Match, Cells}
use Rattle.settlement.specs.declared.position.Position.{Position}
use Rattle.reply_print.specs.OutcomePieces.{state_entries}
use Rattle.reply_print.specs.Within.{IsLine, IsAccount, IsMarket, IsSmall, IsOrderNumber, IsBatchNumber, IsBatchWithin, IsCoverWithin, IsPointWithin}
use Rattle.proposal_text.specs.CellRanges.{AreCellsWithin}
use Rattle.proposal_text.specs.Counts.{IsShortCover}
use Rattle.proposal_text.specs.declared.counts.TheConstants.{MAX_POINTS}
use Rattle.proposal_text.specs.declared.margins.ToldMargin.{ToldMargin}
use Rattle.proposal_text.specs.declared.margins.ToldMargin.TheVariants as told
use Rattle.proposal_text.specs.declared.prices.QuotedPrice.{QuotedPrice}
use Rattle.proposal_text.specs.declared.prices.QuotedPrice.TheVariants as price
use Rattle.proposal_text.specs.declared.submissions.Submission.{Submission}
use Rattle.proposal_text.specs.declared.replies.BoundedOutcome.{BoundedOutcome}
use Rattle.proposal_text.specs.declared.replies.ProposalReply.{ProposalReply}
use Rattle.proposal_text.specs.declared.replies.ProposalReply.TheVariants.{Book, Positions, Proposed, Bounded, Stale, Unproved, Closed, Reopened, MarketIsClosed, MarketIsOpen, Secured, Needs, Uncovered, Quoted, Priced, Margin, Tried, Barred}
use Rattle.proposal_text.specs.Needs.{IsNeedWithin}

abbrev pub IsProposalCoverWithin : ProposalCover → Type 0
IsProposalCoverWithin (Checked cover) = IsCoverWithin cover × IsShortCover cover
IsProposalCoverWithin Match = ⊤
IsProposalCoverWithin (Cells nodes) = AreCellsWithin nodes

-- numbers of 128 bits at not too many points
abbrev pub IsMeasureWithin : Measure → Type 0
IsMeasureWithin measure = (length measure.points ≤ MAX_POINTS) × AllByRecursion IsPointWithin measure.points

abbrev pub IsProposalWithin : Proposal → Type 0
IsProposalWithin proposal = IsProposalCoverWithin proposal.cover × IsMeasureWithin proposal.measure

-- for at most 256 orders
abbrev pub IsSubmissionWithin : Submission → Type 0
IsSubmissionWithin s = IsProposalWithin s.proposal × (length s.orders ≤ MAX_ORDERS) × AllByRecursion IsOrderNumber s.orders

-- a position of the account in the market
pub record IsPositionWithin (account market : ℕ) (p : Position) : Type 0 where
  pub account_is : p.account ≡ account
  pub market_is : p.market ≡ market
  pub batch : IsBatchNumber p.batch
  pub order : IsOrderNumber p.order
  pub listed : All (λ (leg : Leg). IsListed (option_of leg.form)) (legs_in p.bundle)
  pub filled : pos 1 ≤ℤ p.fill.numerator

abbrev pub IsBoundedWithin : BoundedOutcome → Type 0
IsBoundedWithin outcome = (outcome.units ≤ MAX_BUDGET) × IsProposalWithin outcome.proposal

-- the numbers of the orders rise
abbrev pub AreRising : List Order → Type 0
AreRising orders = IsStrictlyIncreasing (map (λ (order : Order). order.id) orders)

-- 0 and these do not fall, in this order
pub record AreInOrder (surplus best_surplus least_bound bound : Frac128) : Type 0 where
  pub not_below_zero : IsNotBelowZero (fraction_of surplus)
  pub best : AtMost (fraction_of surplus) (fraction_of best_surplus)
  pub bounded : AtMost (fraction_of best_surplus) (fraction_of least_bound)
  pub least : AtMost (fraction_of least_bound) (fraction_of bound)

-- a whole price from 0 to 10^12
abbrev pub IsPriceWithin : QuotedPrice → Type 0
IsPriceWithin (price.At p) = p ≤ MAX_PRICE
IsPriceWithin price.Never = ⊤
IsPriceWithin price.Unmarked = ⊤

-- a state of numbers of 128 bits
abbrev pub IsMarginWithin : ToldMargin → Type 0
IsMarginWithin (told.Least liability at) = AllByRecursion IsSmall (state_entries at)
IsMarginWithin (told.Unbounded ray) = AllByRecursion IsSmall (state_entries ray)
IsMarginWithin told.Wide = ⊤
IsMarginWithin told.Budget = ⊤

abbrev pub IsProposalReplyWithin : ProposalReply → Type 0
IsProposalReplyWithin (Book market batch) = IsMarket market × IsBatchWithin batch × AreRising batch.orders
IsProposalReplyWithin (Positions account market positions) = IsAccount account × IsMarket market × AllByRecursion (IsPositionWithin account market) positions
IsProposalReplyWithin (Proposed market surplus bound best_surplus least_bound) = IsMarket market × AreInOrder surplus best_surplus least_bound bound
IsProposalReplyWithin (Bounded number market batch outcome) = IsBatchNumber number × IsMarket market × IsBatchWithin batch × IsBoundedWithin outcome
IsProposalReplyWithin Stale = ⊤
IsProposalReplyWithin (Unproved f) = ⊤
IsProposalReplyWithin (Closed market orders) = IsMarket market × (orders ≤ MAX_ORDERS)
IsProposalReplyWithin (Reopened market) = IsMarket market
IsProposalReplyWithin MarketIsClosed = ⊤
IsProposalReplyWithin MarketIsOpen = ⊤
IsProposalReplyWithin (Secured account amount) = IsAccount account × (amount < 2 ^ 127)
IsProposalReplyWithin (Needs told) = IsAccount told.account × IsSmall told.balance × IsNeedWithin told.need
IsProposalReplyWithin (Uncovered need) = IsNeedWithin need
IsProposalReplyWithin (Quoted market bid ask) = IsMarket market × IsPriceWithin bid × IsPriceWithin ask
IsProposalReplyWithin (Priced market quantity ask bid) = IsMarket market × Between 1 MAX_QUANTITY quantity × IsPriceWithin ask × IsPriceWithin bid
IsProposalReplyWithin (Margin account market margin) = IsAccount account × IsMarket market × IsMarginWithin margin
IsProposalReplyWithin (Tried market trial) = IsMarket market × IsNotBelowZero (fraction_of trial.fill) × IsNotBelowZero (fraction_of trial.surplus)
IsProposalReplyWithin (Barred bar) = ⊤

-- a line and its reply
abbrev pub IsProposalLineWithin : ℕ → ProposalReply → Type 0
IsProposalLineWithin line reply = IsLine line × IsProposalReplyWithin reply
