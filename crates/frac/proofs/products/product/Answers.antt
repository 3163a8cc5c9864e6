use Rattle.std.proofs.Common.{◌∙◌, sym, ap, subst, to_z-of_z, rules, arith}
use Rattle.std.specs.Option.{option_map}
use mir.Val.{SFits}
use mir.Syntax.{w128}
use Rattle.exact_num.specs.Fraction.{IsLowest}
use Rattle.exact_num.proofs.ProductValues.{product_is_lowest}
use Rattle.frac.specs.Range.{within, within_natural}
use Rattle.frac.specs.Value.{fraction_of}
use Rattle.frac.proofs.ProductSteps.{above_stops, below_stops, product_ends, product_answers}
use Rattle.frac.proofs.products.product.Goals as goal

pub returns-in_err-above : goal.returns-in_err-above
returns-in_err-above c =
    let p : SFits w128 c.reduced_factors-factors.result.numerators.0 = search rules in
    let q : SFits w128 c.reduced_factors-factors.result.numerators.1 = search rules in
    let e = simp to_z-of_z at c.whole_product.ensures in
    ap (option_map fraction_of) c.from_residual.ensures ∙ above_stops _ _ _ c.whole_product.result (e ∙ ap (within c.args.limit) c.reduced_factors-factors.ensures.above) c.in_err-above.was

pub returns-in_err-below : goal.returns-in_err-below
returns-in_err-below c =
    let p : SFits w128 c.reduced_factors-factors.result.numerators.0 = search rules in
    let q : SFits w128 c.reduced_factors-factors.result.numerators.1 = search rules in
    let e = simp to_z-of_z at c.whole_product.ensures in
    ap (option_map fraction_of) c.from_residual-in_err-below.ensures
    ∙ below_stops _ _ _ c.whole_product.result c.in_ok-above.above c.natural_product.result (e ∙ ap (within c.args.limit) c.reduced_factors-factors.ensures.above) c.in_ok-above.was (c.natural_product.ensures ∙ ap (within_natural c.args.limit) c.reduced_factors-factors.ensures.below) c.in_err-below.was

pub invariant_of-result : goal.invariant_of-result
invariant_of-result c =
    let p : SFits w128 c.reduced_factors-factors.result.numerators.0 = search rules in
    let q : SFits w128 c.reduced_factors-factors.result.numerators.1 = search rules in
    let w : SFits w128 c.in_ok-above.above = search rules in
    let e = simp to_z-of_z at c.whole_product.ensures in
    let h = product_ends _ _ _ c.whole_product.result c.in_ok-above.above c.natural_product.result c.in_ok-below.below (e ∙ ap (within c.args.limit) c.reduced_factors-factors.ensures.above) c.in_ok-above.was (c.natural_product.ensures ∙ ap (within_natural c.args.limit) c.reduced_factors-factors.ensures.below) c.in_ok-below.was in
    record {
      lowest = rw (to_z-of_z w) (subst IsLowest (sym h.value) (product_is_lowest _ _ c.args.x.lowest c.args.y.lowest));
      above_fits = rw (to_z-of_z w) (omega (arith, h.above));
      below_fits = omega (arith, h.below);
    }

pub returns : goal.returns
returns c =
    let p : SFits w128 c.reduced_factors-factors.result.numerators.0 = search rules in
    let q : SFits w128 c.reduced_factors-factors.result.numerators.1 = search rules in
    let w : SFits w128 c.in_ok-above.above = search rules in
    let e = simp to_z-of_z at c.whole_product.ensures in
    let h = product_ends _ _ _ c.whole_product.result c.in_ok-above.above c.natural_product.result c.in_ok-below.below (e ∙ ap (within c.args.limit) c.reduced_factors-factors.ensures.above) c.in_ok-above.was (c.natural_product.ensures ∙ ap (within_natural c.args.limit) c.reduced_factors-factors.ensures.below) c.in_ok-below.was in
    rw (to_z-of_z w) (product_answers _ _ _ _ _ h)
