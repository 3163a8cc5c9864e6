use Rattle.std.proofs.Common.{◌≡◌, ◌∙◌, sym, ap, subst, arith, length, All}
use Rattle.std.proofs.lemmas.List.{length-map}
use Rattle.exact_num.specs.Fraction.{IsNotBelowZero}
use Rattle.portfolio_margin.specs.declared.least_margin.LeastMargin.TheVariants.{Wide, Budget}
use Rattle.portfolio_margin.specs.Answers.{IsMarginWith}
use Rattle.settlement.specs.declared.position.Position.{Position}
use Rattle.portfolio_margin.specs.Run.{MarginQuestion, margin_run, order_of}
use Rattle.portfolio_margin.proofs.Turns.{asked_is, budget_of, fills_are, fills_low, forms_are, margin_of, wide_of}
use Rattle.portfolio_margin.proofs.margins.margin_with_units.Goals as goal

pub least-requires-clause-asked : goal.least-requires-clause-asked
least-requires-clause-asked c =
    let ps = c.args.positions.now in
    let orders = c.from_vec.ensures ∙ c.in_ok-orders.ensures in
    let many : length c.from_vec.result ≡ length ps = ap length orders ∙ length-map ps order_of in
    let fills = fills_are ps c.as_slice.result.now c.in_ok-fills.fills.items c.as_slice.ensures.value c.in_ok-fills.ensures in
    record {
      forms = forms_are c.args.underlyings c.from_vec.result ps c.requires.underlyings.0 c.requires.underlyings.1 orders c.requires.forms;
      few = omega (arith, many, c.requires.few);
      fills = ap length (c.as_slice.ensures.value ∙ c.in_ok-fills.ensures) ∙ length-map ps (λ (p : Position). p.fill) ∙ sym many;
      not_below_zero = subst (All IsNotBelowZero) (sym fills) (fills_low ps c.requires.held);
    }

pub returns-in-Ok-clause-run : goal.returns-in-Ok-clause-run
returns-in-Ok-clause-run c =
    let ps = c.args.positions.now in
    let n = c.args.underlyings in
    let fills = fills_are ps c.as_slice.result.now c.in_ok-fills.fills.items c.as_slice.ensures.value c.in_ok-fills.ensures in
    let same = asked_is c.new-budget.result.limit c.args.limit n c.from_vec.result c.as_slice.result.now ps c.new-budget.ensures.limit (c.from_vec.ensures ∙ c.in_ok-orders.ensures) fills in
    subst (λ (a : MarginQuestion). IsMarginWith (margin_run a) c.in-Ok.margin c.least.new.budget.spent) same (margin_of _ c.in-Ok.margin c.least.new.budget.spent c.in-Ok.ensures.end)

pub returns-in-Err-Wide-clause-run : goal.returns-in-Err-Wide-clause-run
returns-in-Err-Wide-clause-run c =
    let ps = c.args.positions.now in
    let n = c.args.underlyings in
    let fills = fills_are ps c.as_slice.result.now c.in_ok-fills.fills.items c.as_slice.ensures.value c.in_ok-fills.ensures in
    let same = asked_is c.new-budget.result.limit c.args.limit n c.from_vec.result c.as_slice.result.now ps c.new-budget.ensures.limit (c.from_vec.ensures ∙ c.in_ok-orders.ensures) fills in
    let said = wide_of _ c.in-Err-Wide.field-0 c.in-Err-Wide.unit c.in-Err-Wide.wide _ c.least.new.budget.spent c.in-Err-Wide.field-0-is c.in-Err-Wide.ensures.end in
    subst (λ (a : MarginQuestion). IsMarginWith (margin_run a) (Wide c.in-Err-Wide.unit c.in-Err-Wide.wide) c.least.new.budget.spent) same said

pub returns-in-Err-Budget-clause-run : goal.returns-in-Err-Budget-clause-run
returns-in-Err-Budget-clause-run c =
    let ps = c.args.positions.now in
    let n = c.args.underlyings in
    let fills = fills_are ps c.as_slice.result.now c.in_ok-fills.fills.items c.as_slice.ensures.value c.in_ok-fills.ensures in
    let same = asked_is c.new-budget.result.limit c.args.limit n c.from_vec.result c.as_slice.result.now ps c.new-budget.ensures.limit (c.from_vec.ensures ∙ c.in_ok-orders.ensures) fills in
    let said = budget_of _ c.in-Err-Budget.field-0 _ c.in-Err-Budget.field-0-is c.in-Err-Budget.ensures.end in
    subst (λ (a : MarginQuestion). IsMarginWith (margin_run a) Budget c.least.new.budget.spent) same said
