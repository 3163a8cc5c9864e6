use Rattle.std.proofs.Common.{sym, ap, ◌∙◌}
use Rattle.order_book.specs.Refusals.{unless_memory}
use Rattle.quote_lines.proofs.MayQuote.{batch_found, batch_too_many, may_quote}
use Rattle.quote_lines.proofs.quoting.live_batch.Goals as goal

pub returns-in-Ok-clause-asked : goal.returns-in-Ok-clause-asked
returns-in-Ok-clause-asked c =
    batch_found c.args.exchange.now c.args.request.now c.in-Ok.batch c.requires.told c.in-Ok.ensures.batch c.in-Ok.ensures.may_finish.1

pub returns-in-Ok-clause-may : goal.returns-in-Ok-clause-may
returns-in-Ok-clause-may c = may_quote c.args.exchange.now c.args.request.now c.in-Ok.batch c.requires.kept c.requires.request.listed c.in-Ok.ensures.batch c.requires.told

pub returns-in-Err-TooMany-clause-asked : goal.returns-in-Err-TooMany-clause-asked
returns-in-Err-TooMany-clause-asked c =
    batch_too_many c.args.exchange.now c.args.request.now c.requires.told (sym (ap unless_memory c.in-Err-TooMany.field-0-is) ∙ c.in-Err-TooMany.ensures.refused)
