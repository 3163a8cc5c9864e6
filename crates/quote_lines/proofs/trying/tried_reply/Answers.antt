use Rattle.std.proofs.Common.{Ok, Err, ap, sym, ◌∙◌}
use Rattle.exchange_core.specs.Step.{batch_in}
use Rattle.lists.specs.Refusals.{first_of}
use Rattle.quote_lines.specs.Refusals.{quote_refusals}
use Rattle.quote_lines.specs.Replies.{tried_for}
use Rattle.quote_lines.proofs.MayQuote.{told_of_found, told_of_refusal}
use Rattle.quote_lines.proofs.trying.tried_reply.Goals as goal

pub returns-in_ok-tried_for-in-Ok : goal.returns-in_ok-tried_for-in-Ok
returns-in_ok-tried_for-in-Ok c =
    let state = c.args.exchange.now in
    let request = c.args.request.now in
    ap Ok c.in_ok-tried_for-in-Ok.ensures
    ∙ told_of_found (λ batch. Ok (tried_for batch request)) Err (first_of (quote_refusals state.book request.quote)) (batch_in state request.quote.market) c.in-Ok.batch (sym c.in-Ok.is ∙ c.in_ok-batch.ensures.asked)

pub returns-in-Err : goal.returns-in-Err
returns-in-Err c =
    let state = c.args.exchange.now in
    let request = c.args.request.now in
    told_of_refusal Err (first_of (quote_refusals state.book request.quote)) (batch_in state request.quote.market) c.in-Err.refusal _ (sym c.in-Err.is ∙ c.in_ok-batch.ensures.asked)
