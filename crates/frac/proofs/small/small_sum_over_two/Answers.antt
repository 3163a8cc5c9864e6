use Rattle.std.proofs.Common.{◌∙◌, sym, ap, subst, to_z-of_z, rules, ℕ}
use mir.Val.{SFits}
use mir.Syntax.{w64}
use Rattle.arithmetic.specs.Gcd.{gcd}
use Rattle.exact_num.specs.Fraction.{IsLowest}
use Rattle.exact_num.specs.Fits.{sum_divisor}
use Rattle.exact_num.proofs.Values.{sum_is_lowest}
use Rattle.frac.specs.Value.{fraction_of}
use Rattle.frac.proofs.SmallSums.{two_fit, over_two_ends}
use Rattle.frac.proofs.small.small_sum_over_two.Goals as goal

pub overflow_mul-total : goal.overflow_mul-total
overflow_mul-total c =
    let x = fraction_of c.args.x in
    let y = fraction_of c.args.y in
    let f = two_fit x y c.short_divisor-g.result c.short_quotient-left.result c.short_quotient.result c.requires.left c.requires.right c.short_quotient-left.ensures c.short_quotient.ensures in
    rw (f.left_above, f.right_below) f.left

pub overflow_mul-total-2 : goal.overflow_mul-total-2
overflow_mul-total-2 c =
    let x = fraction_of c.args.x in
    let y = fraction_of c.args.y in
    let f = two_fit x y c.short_divisor-g.result c.short_quotient-left.result c.short_quotient.result c.requires.left c.requires.right c.short_quotient-left.ensures c.short_quotient.ensures in
    rw (f.right_above, f.left_below) f.right

pub overflow_add-total : goal.overflow_add-total
overflow_add-total c =
    let x = fraction_of c.args.x in
    let y = fraction_of c.args.y in
    let f = two_fit x y c.short_divisor-g.result c.short_quotient-left.result c.short_quotient.result c.requires.left c.requires.right c.short_quotient-left.ensures c.short_quotient.ensures in
    rw (f.left_above, f.right_above, f.left_below, f.right_below, to_z-of_z f.left, to_z-of_z f.right) f.total

pub invariant_of-result : goal.invariant_of-result
unfolding sum_divisor
invariant_of-result c =
    let x = fraction_of c.args.x in
    let y = fraction_of c.args.y in
    let f = two_fit x y c.short_divisor-g.result c.short_quotient-left.result c.short_quotient.result c.requires.left c.requires.right c.short_quotient-left.ensures c.short_quotient.ensures in
    let short : SFits w64 c.signed_quotient.result = search rules in
    let en = simp (f.left_above, f.right_above, f.left_below, f.right_below, to_z-of_z f.left, to_z-of_z f.right, to_z-of_z f.total) at c.signed_quotient.ensures in
    let size = simp (f.left_above, f.right_above, f.left_below, f.right_below, to_z-of_z f.left, to_z-of_z f.right, to_z-of_z f.total) at c.unsigned_abs.ensures in
    let es = c.short_divisor-shared.ensures.value ∙ ap (λ (k : ℕ). gcd k c.short_divisor-g.result) size.value in
    let h = over_two_ends x y c.short_divisor-g.result c.short_divisor-shared.result c.short_quotient-left.result c.short_quotient.result c.short_quotient-2.result c.signed_quotient.result c.requires.left c.requires.right c.short_divisor-g.ensures.value c.short_quotient-left.ensures c.short_quotient.ensures es en c.short_quotient-2.ensures in
    record {
      lowest = rw (to_z-of_z short, to_z-of_z h.wide) (subst IsLowest (sym h.value) (sum_is_lowest x y c.args.x.lowest c.args.y.lowest));
      above_fits = rw (to_z-of_z short, to_z-of_z h.wide) h.above;
      below_fits = h.below;
    }

pub returns : goal.returns
unfolding sum_divisor
returns c =
    let x = fraction_of c.args.x in
    let y = fraction_of c.args.y in
    let f = two_fit x y c.short_divisor-g.result c.short_quotient-left.result c.short_quotient.result c.requires.left c.requires.right c.short_quotient-left.ensures c.short_quotient.ensures in
    let short : SFits w64 c.signed_quotient.result = search rules in
    let en = simp (f.left_above, f.right_above, f.left_below, f.right_below, to_z-of_z f.left, to_z-of_z f.right, to_z-of_z f.total) at c.signed_quotient.ensures in
    let size = simp (f.left_above, f.right_above, f.left_below, f.right_below, to_z-of_z f.left, to_z-of_z f.right, to_z-of_z f.total) at c.unsigned_abs.ensures in
    let es = c.short_divisor-shared.ensures.value ∙ ap (λ (k : ℕ). gcd k c.short_divisor-g.result) size.value in
    let h = over_two_ends x y c.short_divisor-g.result c.short_divisor-shared.result c.short_quotient-left.result c.short_quotient.result c.short_quotient-2.result c.signed_quotient.result c.requires.left c.requires.right c.short_divisor-g.ensures.value c.short_quotient-left.ensures c.short_quotient.ensures es en c.short_quotient-2.ensures in
    rw (to_z-of_z short, to_z-of_z h.wide) h.value
