use Rattle.std.proofs.Common.{ap, sym, ◌∙◌}
use Rattle.exchange_core.specs.Step.{batch_in}
use Rattle.lists.specs.Refusals.{first_of}
use Rattle.option_quotes.specs.declared.trying.Tried.{Tried}
use Rattle.proposal_text.specs.declared.replies.ProposalReply.TheVariants as told
use Rattle.proposal_text.specs.declared.replies.Trial.{Trial}
use Rattle.quote_lines.specs.Refusals.{quote_refusals}
use Rattle.quote_lines.specs.Replies.{tried_for}
use Rattle.quote_lines.proofs.MayQuote.{told_of_found, told_of_refusal}
use Rattle.proposal_lines.specs.Reads.{refused_by}
use Rattle.proposal_lines.specs.Trials.{trial_of}
use Rattle.proposal_text.specs.declared.replies.ServedReply.TheVariants.{Plain, Told}
use Rattle.proposal_lines.proofs.trials.trial_reply.Goals as goal

pub returns-in-Ok : goal.returns-in-Ok
returns-in-Ok c =
    let state = c.args.exchange.now in
    let request = c.args.request.now in
    let market = request.quote.market in
    ap (λ (trial : Trial). Told (told.Tried market trial)) c.trial_of.ensures
    ∙ told_of_found (λ (tried : Tried). Told (told.Tried market (trial_of tried))) refused_by (first_of (quote_refusals state.book request.quote)) (tried_for (batch_in state market) request) c.in-Ok.tried (sym c.in-Ok.is ∙ c.in_ok-tried.ensures)

pub returns-in-Err : goal.returns-in-Err
returns-in-Err c =
    let state = c.args.exchange.now in
    let request = c.args.request.now in
    ap Plain c.reply.ensures
    ∙ told_of_refusal refused_by (first_of (quote_refusals state.book request.quote)) (tried_for (batch_in state request.quote.market) request) c.in-Err.refusal _ (sym c.in-Err.is ∙ c.in_ok-tried.ensures)
