use Rattle.std.proofs.Common.{◌∙◌, sym, ap, subst, to_z-of_z, rules, arith, ℕ, ◌+ℤ◌}
use Rattle.std.proofs.lemmas.Int.{fits_signed_from_abs, ints}
use mir.Val.{SFits}
use mir.Syntax.{w64, w128}
use Rattle.arithmetic.specs.Gcd.{gcd}
use Rattle.exact_num.specs.Fraction.{IsLowest}
use Rattle.exact_num.proofs.Values.{sum_is_lowest}
use Rattle.frac.specs.Value.{fraction_of}
use Rattle.frac.proofs.SmallSums.{over_one_ends}
use Rattle.frac.proofs.small.small_sum_over_one.Goals as goal

pub invariant_of-result : goal.invariant_of-result
invariant_of-result c =
    let x = fraction_of c.args.x in
    let y = fraction_of c.args.y in
    let wide_x : SFits w128 x.numerator = fits_signed_from_abs w128 _ c.args.x.above_fits in
    let wide_y : SFits w128 y.numerator = fits_signed_from_abs w128 _ c.args.y.above_fits in
    let short_x : SFits w64 x.numerator = fits_signed_from_abs w64 _ (omega (arith, c.requires.left.0)) in
    let short_y : SFits w64 y.numerator = fits_signed_from_abs w64 _ (omega (arith, c.requires.right.0)) in
    let total : SFits w64 (x.numerator +ℤ y.numerator) = fits_signed_from_abs w64 _ (omega (arith, ints, c.requires.left.0, c.requires.right.0)) in
    let short : SFits w64 c.signed_quotient.result = search rules in
    let es = c.short_divisor-shared.ensures.value ∙ ap (λ (k : ℕ). gcd k c.args.x.denominator) (simp to_z-of_z at c.unsigned_abs.ensures).value in
    let h = over_one_ends x y c.signed_quotient.result c.short_divisor-shared.result c.short_quotient.result c.requires.left c.requires.right c.args.x.lowest.positive (sym c.requires.same) es (simp to_z-of_z at c.signed_quotient.ensures) c.short_quotient.ensures in
    record {
      lowest = rw (to_z-of_z short, to_z-of_z h.wide) (subst IsLowest (sym h.value) (sum_is_lowest x y c.args.x.lowest c.args.y.lowest));
      above_fits = rw (to_z-of_z short, to_z-of_z h.wide) h.above;
      below_fits = h.below;
    }

pub returns : goal.returns
returns c =
    let x = fraction_of c.args.x in
    let y = fraction_of c.args.y in
    let wide_x : SFits w128 x.numerator = fits_signed_from_abs w128 _ c.args.x.above_fits in
    let wide_y : SFits w128 y.numerator = fits_signed_from_abs w128 _ c.args.y.above_fits in
    let short_x : SFits w64 x.numerator = fits_signed_from_abs w64 _ (omega (arith, c.requires.left.0)) in
    let short_y : SFits w64 y.numerator = fits_signed_from_abs w64 _ (omega (arith, c.requires.right.0)) in
    let total : SFits w64 (x.numerator +ℤ y.numerator) = fits_signed_from_abs w64 _ (omega (arith, ints, c.requires.left.0, c.requires.right.0)) in
    let short : SFits w64 c.signed_quotient.result = search rules in
    let es = c.short_divisor-shared.ensures.value ∙ ap (λ (k : ℕ). gcd k c.args.x.denominator) (simp to_z-of_z at c.unsigned_abs.ensures).value in
    let h = over_one_ends x y c.signed_quotient.result c.short_divisor-shared.result c.short_quotient.result c.requires.left c.requires.right c.args.x.lowest.positive (sym c.requires.same) es (simp to_z-of_z at c.signed_quotient.ensures) c.short_quotient.ensures in
    rw (to_z-of_z short, to_z-of_z h.wide) h.value
