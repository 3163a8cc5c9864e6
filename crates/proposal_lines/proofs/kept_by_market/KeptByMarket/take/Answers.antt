use Rattle.std.proofs.Common.{ap, ◌∙◌}
use Rattle.proposal_lines.specs.KeptByMarket.{without_kept}
use Rattle.proposal_lines.proofs.ByMarket.{one_removed}
use Rattle.proposal_lines.proofs.kept_by_market.KeptByMarket.take.Goals as goal

pub returns-clause-left : goal.returns-clause-left
returns-clause-left c =
    c.shift_remove.ensures.entries ∙ one_removed c.args.market c.self.inside.by_market.entries c.self.invariant ∙ ap (without_kept c.args.market) c.self.view_is
