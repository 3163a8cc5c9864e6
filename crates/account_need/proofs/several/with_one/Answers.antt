use Rattle.std.proofs.Common.{◌≤◌, ◌+◌, All, List, length, sym, subst, ◌∙◌}
use Rattle.form.specs.declared.limits.TheConstants.{MAX_ORDERS}
use Rattle.settlement.specs.Positions.{IsHeldPosition}
use Rattle.settlement.specs.declared.position.Position.{Position}
use Rattle.account_need.proofs.Entered.{IsOn, one_few, one_fits}
use Rattle.account_need.proofs.several.with_one.Goals as goal

pub run_over-requires-clause-few : goal.run_over-requires-clause-few
run_over-requires-clause-few c =
    subst (λ (owed : List Position). length owed ≤ MAX_ORDERS) (sym (c.deref.ensures.value ∙ c.in_ok-owed.ensures)) (one_few c.args.underlyings c.args.order.now c.requires.underlyings.1)

pub run_over-requires-clause-forms : goal.run_over-requires-clause-forms
run_over-requires-clause-forms c =
    subst (All (IsOn (c.args.underlyings + 1))) (sym (c.deref.ensures.value ∙ c.in_ok-owed.ensures)) (one_fits c.args.underlyings c.args.order.now c.requires.underlyings.1 c.requires.order).1

pub run_over-requires-clause-held : goal.run_over-requires-clause-held
run_over-requires-clause-held c =
    subst (All IsHeldPosition) (sym (c.deref.ensures.value ∙ c.in_ok-owed.ensures)) (one_fits c.args.underlyings c.args.order.now c.requires.underlyings.1 c.requires.order).0
