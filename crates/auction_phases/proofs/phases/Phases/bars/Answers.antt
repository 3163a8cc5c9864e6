use Rattle.std.proofs.Common.{sym, ◌∙◌}
use Rattle.exchange_core.proofs.Keeping.{places_of}
use Rattle.auction_phases.proofs.phases.Phases.bars.Goals as goal

pub bars_order-requires : goal.bars_order-requires
bars_order-requires c = (places_of c.args.exchange.now c.args.command.now c.in-Some.order c.requires (sym c.order_of.ensures ∙ c.in-Some.is)).within
