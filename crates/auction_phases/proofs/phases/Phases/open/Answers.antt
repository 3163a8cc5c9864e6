use Rattle.std.proofs.Common.{◌≡◌, rules, ap, ◌∙◌}
use Rattle.std.proofs.lemmas.Fn.{filter_same}
use Rattle.auction_phases.specs.Phases.{with_open}
use Rattle.auction_phases.proofs.phases.Phases.open.Goals as goal

pub returns : goal.returns
returns c =
    let left : c.retain.new.self.items ≡ with_open c.self.inside.closed.items c.args.market = filter_same _ _ _ (λ x b f' k. search rules) _ _ c.retain.ensures.filtered in
    left ∙ ap (λ closed. with_open closed c.args.market) c.self.view_is
