use Rattle.std.proofs.Common.{FitsSigned, rules, ◌≤◌, ℕ, List, All, ap, ap₂, ◌∙◌, sym, subst}
use Rattle.std.proofs.lemmas.Int.{to_z-of_z}
use mir.Syntax.{w128}
use Rattle.std.specs.List.{zip}
use Rattle.exact_num.specs.Fraction.{whole}
use Rattle.frac.specs.ValueOf.{value_of}
use Rattle.clearing_model.specs.Clearing.{premium}
use Rattle.clearing.specs.Outcome.{whole_fills}
use Rattle.std.proofs.lemmas.List.Elements.{All-weaker}
use Rattle.form.specs.Limits.{IsOrderWithin}
use Rattle.form.specs.declared.limits.TheConstants.{MAX_QUANTITY}
use Rattle.form.specs.declared.orders.Order.{Order}
use Rattle.bundle_match.proofs.MatchLaws.{fills_small}
use Rattle.clearing.proofs.fallback.Matched.new.Goals as goal

pub premium-surplus-requires-clause-fills : goal.premium-surplus-requires-clause-fills
premium-surplus-requires-clause-fills c =
    let orders = c.args.batch.now.orders in
    let small = All-weaker IsOrderWithin (λ (order : Order). order.quantity ≤ MAX_QUANTITY) (λ order each. each.quantity) orders c.requires.orders_within in
    subst (λ (fills : List ℕ). All (λ fill. fill ≤ MAX_QUANTITY) fills) (sym c.as_slice-2.ensures.value)
    (fills_small MAX_QUANTITY orders c.in_ok-amounts.amounts.items c.in_ok-amounts.ensures.within small)

pub returns : goal.returns
returns c =
    let amounts = c.in_ok-amounts.amounts.items in
    let orders = c.args.batch.now.orders in
    let fits : FitsSigned w128 c.premium-surplus.result = search rules in
    record {
      fills = c.in_ok-whole_fills.ensures ∙ ap whole_fills (c.as_slice-3.ensures.value ∙ c.in_ok-amounts.ensures.fills);
      surplus =
          c.value.ensures
          ∙ ap (λ v. value_of (whole v)) (to_z-of_z w128 c.premium-surplus.result fits)
          ∙ ap (λ v. value_of (whole v)) (c.premium-surplus.ensures.premium ∙ ap₂ (λ os fs. premium (zip os fs)) c.as_slice.ensures (c.as_slice-2.ensures.value ∙ c.in_ok-amounts.ensures.fills));
    }
