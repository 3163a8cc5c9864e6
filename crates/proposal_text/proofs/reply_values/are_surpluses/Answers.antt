use Rattle.std.proofs.Common.{◌≡◌, ◌&&◌, Bool, true, false, rules, sym, ap, ◌∙◌}
use Rattle.exact_num.specs.Tests.{is_at_most, is_not_below_zero}
use Rattle.frac.specs.Value.{fraction_of}
use Rattle.proposal_text.proofs.reply_values.are_surpluses.Goals as goal

pub returns-then-is_not_negative : goal.returns-then-is_not_negative
returns-then-is_not_negative c =
    let a = c.args in
    let is : is_not_below_zero (fraction_of a.surplus) ≡ true = sym c.is_not_negative.ensures ∙ c.if-is_not_negative.true in
    let le : c.le.result ≡ is_at_most (fraction_of a.surplus) (fraction_of a.best_surplus) = search rules in
    le ∙ ap (λ (b : Bool). b && is_at_most (fraction_of a.surplus) (fraction_of a.best_surplus)) (sym is)

pub returns-else-is_not_negative : goal.returns-else-is_not_negative
returns-else-is_not_negative c =
    let a = c.args in
    let is : is_not_below_zero (fraction_of a.surplus) ≡ false = sym c.is_not_negative.ensures ∙ c.if-is_not_negative.false in
    c.if-is_not_negative.false ∙ ap (λ (b : Bool). b && is_at_most (fraction_of a.surplus) (fraction_of a.best_surplus)) (sym is)
