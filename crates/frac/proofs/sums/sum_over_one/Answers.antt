use Rattle.std.proofs.Common.{◌∙◌, ap, sym, subst, to_z-of_z, rules, arith}
use Rattle.std.specs.Option.{option_map}
use Rattle.std.proofs.lemmas.Int.{fits_signed_from_abs}
use mir.Val.{SFits}
use mir.Syntax.{w128}
use Rattle.exact_num.specs.Fraction.{IsLowest}
use Rattle.exact_num.proofs.Values.{sum_is_lowest}
use Rattle.frac.specs.Value.{fraction_of}
use Rattle.frac.proofs.SumSteps.{over_one_stops, over_one_ends, sum_answers}
use Rattle.frac.proofs.sums.sum_over_one.Goals as goal

pub returns-in_err-above : goal.returns-in_err-above
returns-in_err-above c =
    let x : SFits w128 c.args.x.numerator = fits_signed_from_abs w128 _ c.args.x.above_fits in
    let y : SFits w128 c.args.y.numerator = fits_signed_from_abs w128 _ c.args.y.above_fits in
    let e = simp to_z-of_z at c.whole_sum.ensures in
    ap (option_map fraction_of) c.from_residual.ensures
    ∙ over_one_stops _ (fraction_of c.args.x) (fraction_of c.args.y) c.whole_sum.result c.args.x.lowest.positive (sym c.requires.same) c.requires.left_within c.requires.right_within e c.in_err-above.was

pub invariant_of-result : goal.invariant_of-result
invariant_of-result c =
    let x : SFits w128 c.args.x.numerator = fits_signed_from_abs w128 _ c.args.x.above_fits in
    let y : SFits w128 c.args.y.numerator = fits_signed_from_abs w128 _ c.args.y.above_fits in
    let s : SFits w128 c.in_ok-above.above = search rules in
    let q : SFits w128 c.quotient.result = search rules in
    let e = simp to_z-of_z at c.whole_sum.ensures in
    let k = simp to_z-of_z at c.common-shared.ensures.value in
    let n = simp to_z-of_z at c.quotient.ensures in
    let h = over_one_ends _ (fraction_of c.args.x) (fraction_of c.args.y) c.whole_sum.result c.in_ok-above.above c.quotient.result _ _ c.args.x.lowest.positive (sym c.requires.same) c.requires.left_within c.requires.right_within e c.in_ok-above.was k n c.natural_quotient.ensures in
    record {
      lowest = rw (to_z-of_z q) (subst IsLowest (sym h.value) (sum_is_lowest _ _ c.args.x.lowest c.args.y.lowest));
      above_fits = rw (to_z-of_z q) (omega (arith, h.above));
      below_fits = omega (arith, h.below);
    }

pub returns : goal.returns
returns c =
    let x : SFits w128 c.args.x.numerator = fits_signed_from_abs w128 _ c.args.x.above_fits in
    let y : SFits w128 c.args.y.numerator = fits_signed_from_abs w128 _ c.args.y.above_fits in
    let s : SFits w128 c.in_ok-above.above = search rules in
    let q : SFits w128 c.quotient.result = search rules in
    let e = simp to_z-of_z at c.whole_sum.ensures in
    let k = simp to_z-of_z at c.common-shared.ensures.value in
    let n = simp to_z-of_z at c.quotient.ensures in
    let h = over_one_ends _ (fraction_of c.args.x) (fraction_of c.args.y) c.whole_sum.result c.in_ok-above.above c.quotient.result _ _ c.args.x.lowest.positive (sym c.requires.same) c.requires.left_within c.requires.right_within e c.in_ok-above.was k n c.natural_quotient.ensures in
    rw (to_z-of_z q) (sum_answers _ _ _ _ _ h)
