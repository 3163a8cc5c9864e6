use Rattle.std.proofs.Common.{◌∙◌, sym, ap, subst, to_z-of_z, rules, arith}
use Rattle.std.specs.Option.{option_map}
use mir.Val.{SFits}
use mir.Syntax.{w128}
use Rattle.exact_num.specs.Fraction.{IsLowest}
use Rattle.exact_num.specs.Fits.{sum_divisor}
use Rattle.exact_num.proofs.Values.{sum_is_lowest}
use Rattle.frac.specs.Value.{fraction_of}
use Rattle.frac.proofs.SumSteps.{above_stops, total_is, below_stops, sum_ends, sum_answers}
use Rattle.frac.proofs.sums.sum.Goals as goal

pub total-requires-clause-divisor : goal.total-requires-clause-divisor
unfolding sum_divisor
total-requires-clause-divisor c = c.divisor-g.ensures.value

pub returns-in_err-above : goal.returns-in_err-above
returns-in_err-above c = ap (option_map fraction_of) c.from_residual.ensures ∙ above_stops _ _ _ c.total.result c.total.ensures c.in_err-above.was

pub returns-in_err-below : goal.returns-in_err-below
unfolding sum_divisor
returns-in_err-below c =
    let s : SFits w128 c.in_ok-above.above = search rules in
    let k = simp to_z-of_z at c.common-shared.ensures.value in
    let t = total_is _ _ _ _ _ c.in_ok-above.above _ _ _ _ c.divisor-g.ensures.value c.total.ensures c.in_ok-above.was k c.natural_quotient.ensures c.natural_quotient-2.ensures c.natural_product.ensures in
    ap (option_map fraction_of) c.from_residual-in_err-below.ensures ∙ below_stops _ _ _ _ _ _ t c.in_err-below.was

pub invariant_of-result : goal.invariant_of-result
unfolding sum_divisor
invariant_of-result c =
    let s : SFits w128 c.in_ok-above.above = search rules in
    let q : SFits w128 c.quotient.result = search rules in
    let k = simp to_z-of_z at c.common-shared.ensures.value in
    let n = simp to_z-of_z at c.quotient.ensures in
    let t = total_is _ _ _ _ _ c.in_ok-above.above _ _ _ _ c.divisor-g.ensures.value c.total.ensures c.in_ok-above.was k c.natural_quotient.ensures c.natural_quotient-2.ensures c.natural_product.ensures in
    let h = sum_ends _ _ _ _ c.quotient.result _ _ c.in_ok-below.below t c.in_ok-below.was n in
    record {
      lowest = rw (to_z-of_z q) (subst IsLowest (sym h.value) (sum_is_lowest _ _ c.args.x.lowest c.args.y.lowest));
      above_fits = rw (to_z-of_z q) (omega (arith, h.above));
      below_fits = omega (arith, h.below);
    }

pub returns : goal.returns
unfolding sum_divisor
returns c =
    let s : SFits w128 c.in_ok-above.above = search rules in
    let q : SFits w128 c.quotient.result = search rules in
    let k = simp to_z-of_z at c.common-shared.ensures.value in
    let n = simp to_z-of_z at c.quotient.ensures in
    let t = total_is _ _ _ _ _ c.in_ok-above.above _ _ _ _ c.divisor-g.ensures.value c.total.ensures c.in_ok-above.was k c.natural_quotient.ensures c.natural_quotient-2.ensures c.natural_product.ensures in
    rw (to_z-of_z q) (sum_answers _ _ _ _ _ (sum_ends _ _ _ _ c.quotient.result _ _ c.in_ok-below.below t c.in_ok-below.was n))
