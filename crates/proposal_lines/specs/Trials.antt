-- What is told of an order that is tried.
use Rattle.command_text.specs.declared.requests.TryRequest.{TryRequest}
use Rattle.exchange_core.specs.ExchangeState.{ExchangeState}
use Rattle.exchange_core.specs.Step.{batch_in}
use Rattle.option_quotes.specs.declared.trying.Tried.{Tried}
use Rattle.proposal_text.specs.declared.replies.ProposalReply.TheVariants as told
use Rattle.proposal_text.specs.declared.replies.Trial.{Trial}
use Rattle.quote_lines.specs.Refusals.{quote_refusals}
use Rattle.quote_lines.specs.Replies.{tried_for}
use Rattle.proposal_lines.specs.KeptByMarket.{stop_of}
use Rattle.proposal_lines.specs.Reads.{unless_refused}
use Rattle.proposal_text.specs.declared.replies.ServedReply.{ServedReply}
use Rattle.proposal_text.specs.declared.replies.ServedReply.TheVariants.{Told}

-- its fill, and the surplus and the mark of the outcome
abbrev pub trial_of : Tried → Trial
trial_of tried = record { fill = tried.fill; surplus = tried.outcome.claim.surplus; stopped = stop_of tried.outcome.mark }

-- the first refusal that is met, or what a clear of the live orders with this one at their end would
-- tell of it
abbrev pub trial_reply : ExchangeState → TryRequest → ServedReply
trial_reply state request =
    unless_refused (quote_refusals state.book request.quote)
    (Told (told.Tried request.quote.market (trial_of (tried_for (batch_in state request.quote.market) request))))
