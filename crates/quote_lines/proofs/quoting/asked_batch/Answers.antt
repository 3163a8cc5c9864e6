use Rattle.std.proofs.Common.{sym, ap, ◌∙◌}
use Rattle.lists.specs.Refusals.{first_of}
use Rattle.quote_lines.specs.Refusals.{info_refusals}
use Rattle.quote_lines.proofs.MayQuote.{batch_refused}
use Rattle.quote_lines.proofs.quoting.asked_batch.Goals as goal

pub returns-in-Some-clause-asked : goal.returns-in-Some-clause-asked
returns-in-Some-clause-asked c =
    let request = c.args.request.now in
    batch_refused c.args.exchange.now request c.in-Some.refusal (c.in-Some.ensures ∙ ap (λ info. first_of (info_refusals info request)) c.info.ensures.info)

pub live_batch-requires-clause-told : goal.live_batch-requires-clause-told
live_batch-requires-clause-told c =
    let request = c.args.request.now in
    sym (c.in-None.ensures ∙ ap (λ info. first_of (info_refusals info request)) c.info.ensures.info)
