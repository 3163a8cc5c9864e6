use Rattle.std.proofs.Common.{◌≡◌, Some, sym, ap, subst}
use Rattle.std.specs.Option.{option_map}
use Rattle.exchange_core.specs.Kept.{IsKept}
use Rattle.order_book.specs.Book.{batch_of, market_of}
use Rattle.proposal_text.specs.declared.replies.ProposalReply.{ProposalReply}
use Rattle.proposal_lines.specs.KeptByMarket.{KeptProposals}
use Rattle.proposal_lines.specs.ProposingState.{ProposingState}
use Rattle.proposal_lines.specs.Proved.{AreProvedIn}
use Rattle.proposal_lines.proofs.Charging.{offer_keeps}
use Rattle.proposal_lines.proofs.answers.ProposalLines.take_proposal.Goals as goal

pub invariant_of-self : goal.invariant_of-self
invariant_of-self c =
    let own = c.self.inside in
    let proposed = c.args.proposed in
    let batch = c.args.batch.now in
    let view = sym c.self.view_is in
    subst (AreProvedIn own.exchange.book) (sym (ap (λ (r : ProposalReply × KeptProposals). r.1) c.in-Ok.ensures))
    (offer_keeps own.exchange (subst (λ (s : ProposingState). IsKept s.exchange) view c.requires.kept) own.kept c.self.invariant proposed batch
    (subst (λ (s : ProposingState). option_map batch_of (market_of s.exchange.book proposed.market) ≡ Some batch) view c.requires.batch))
