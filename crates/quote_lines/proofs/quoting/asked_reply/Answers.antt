use Rattle.std.proofs.Common.{ap, sym, ◌∙◌}
use Rattle.exchange_core.specs.Reply.{refused_with}
use Rattle.exchange_core.specs.Step.{batch_in}
use Rattle.lists.specs.Refusals.{first_of}
use Rattle.proposal_text.specs.declared.replies.ServedReply.TheVariants.{Plain, Told}
use Rattle.quote_lines.specs.Refusals.{quote_refusals}
use Rattle.quote_lines.specs.Replies.{told_for}
use Rattle.quote_lines.proofs.MayQuote.{told_of_found, told_of_refusal}
use Rattle.quote_lines.proofs.quoting.asked_reply.Goals as goal

pub returns-in_ok-told_for-in-Ok : goal.returns-in_ok-told_for-in-Ok
returns-in_ok-told_for-in-Ok c =
    let state = c.args.exchange.now in
    let request = c.args.request.now in
    let quantity = c.args.quantity in
    ap Told c.in_ok-told_for-in-Ok.ensures
    ∙ told_of_found (λ batch. Told (told_for batch request quantity)) (λ refusal. Plain (refused_with refusal)) (first_of (quote_refusals state.book request)) (batch_in state request.market) c.in-Ok.batch (sym c.in-Ok.is ∙ c.in_ok-batch.ensures.asked)

pub returns-in-Err : goal.returns-in-Err
returns-in-Err c =
    let state = c.args.exchange.now in
    let request = c.args.request.now in
    ap Plain c.reply.ensures
    ∙ told_of_refusal (λ refusal. Plain (refused_with refusal)) (first_of (quote_refusals state.book request)) (batch_in state request.market) c.in-Err.refusal _ (sym c.in-Err.is ∙ c.in_ok-batch.ensures.asked)
