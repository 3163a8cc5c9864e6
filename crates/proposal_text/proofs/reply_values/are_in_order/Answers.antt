use Rattle.std.proofs.Common.{◌≡◌, ◌&&◌, Bool, true, false, sym, ap, ◌∙◌}
use Rattle.frac.specs.Value.{fraction_of}
use Rattle.proposal_text.specs.ReplyValues.{are_bounds, are_surpluses}
use Rattle.proposal_text.proofs.reply_values.are_in_order.Goals as goal

pub returns-then-are_surpluses : goal.returns-then-are_surpluses
returns-then-are_surpluses c =
    let a = c.args in
    let is : are_surpluses (fraction_of a.surplus) (fraction_of a.best_surplus) ≡ true = sym c.are_surpluses.ensures ∙ c.if-are_surpluses.true in
    c.are_bounds.ensures ∙ ap (λ (b : Bool). b && are_bounds (fraction_of a.best_surplus) (fraction_of a.least_bound) (fraction_of a.bound)) (sym is)

pub returns-else-are_surpluses : goal.returns-else-are_surpluses
returns-else-are_surpluses c =
    let a = c.args in
    let is : are_surpluses (fraction_of a.surplus) (fraction_of a.best_surplus) ≡ false = sym c.are_surpluses.ensures ∙ c.if-are_surpluses.false in
    c.if-are_surpluses.false ∙ ap (λ (b : Bool). b && are_bounds (fraction_of a.best_surplus) (fraction_of a.least_bound) (fraction_of a.bound)) (sym is)
