use Rattle.std.proofs.Common.{◌≡◌, rules, ap, sym, subst, ◌∙◌}
use Rattle.std.specs.Prelude.{List, not}
use Rattle.std.specs.List.{All}
use Rattle.std.proofs.lemmas.Fn.{filter_same}
use Rattle.std.proofs.lemmas.List.Elements.{All-filter}
use Rattle.settlement.specs.declared.position.Position.{Position}
use Rattle.settlement.specs.Positions.{IsHeldPosition, is_of, outside}
use Rattle.settlement.proofs.positions.Positions.drop_market.Goals as goal

pub invariant_of-self : goal.invariant_of-self
invariant_of-self c =
    let left : c.retain.new.self.items ≡ outside c.args.market c.self.inside.items.items = filter_same _ _ _ (λ x b f' k. search rules) _ _ c.retain.ensures.filtered in
    subst (λ (ps : List Position). All IsHeldPosition ps) (sym left) (All-filter (λ p. not (is_of c.args.market p)) IsHeldPosition c.self.inside.items.items c.self.invariant)

pub returns-clause-list : goal.returns-clause-list
returns-clause-list c =
    let left : c.retain.new.self.items ≡ outside c.args.market c.self.inside.items.items = filter_same _ _ _ (λ x b f' k. search rules) _ _ c.retain.ensures.filtered in
    left ∙ ap (outside c.args.market) (ap (λ s. s.list) c.self.view_is)
