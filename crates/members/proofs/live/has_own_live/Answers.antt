use Rattle.std.proofs.Common.{sym, ◌∙◌}
use Rattle.members.proofs.OwnLive.{few_told}
use Rattle.members.proofs.live.has_own_live.Goals as goal

pub returns-then-info-lt-MAX_OWN_LIVE : goal.returns-then-info-lt-MAX_OWN_LIVE
returns-then-info-lt-MAX_OWN_LIVE c =
    few_told c.args.owners.now c.args.session c.args.market c.args.exchange.now.book c.in-Some.info (sym c.info.ensures.info ∙ c.in-Some.is)
    c.if-info-lt-MAX_OWN_LIVE.true
