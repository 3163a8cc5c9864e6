use Rattle.std.proofs.Common.{◌∙◌}
use Rattle.std.proofs.lemmas.Iterator.{items_from_collect}
use Rattle.std.proofs.lemmas.Iterator.Consumers.{YieldsList-from_copied, YieldsList-from_rest}
use Rattle.exchange_core.proofs.held.in_order.Goals as goal

pub returns : goal.returns
returns c =
    items_from_collect c.collect.result c.collect.ensures.ran (YieldsList-from_copied (YieldsList-from_rest c.args.numbers.now.keys (c.copied.ensures.source ∙ c.iter.ensures.rest)))
