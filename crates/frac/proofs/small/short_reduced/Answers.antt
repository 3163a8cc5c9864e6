use Rattle.std.proofs.Common.{◌≡◌, ℕ, pos, ◌∙◌, sym, ap, subst, to_z-of_z, rules, arith}
use mir.Val.{SFits, to_z}
use mir.Syntax.{w64, w128}
use Rattle.std.proofs.Math.Facts.{sfits_widen}
use Rattle.arithmetic.specs.Gcd.{gcd}
use Rattle.exact_num.specs.Fraction.{IsLowest, reduced}
use Rattle.exact_num.specs.Rationals.{reduced_is_lowest}
use Rattle.frac.proofs.Reducing.{reduced_by, reduced_zero}
use Rattle.frac.proofs.SmallSteps.{short_is_below}
use Rattle.frac.proofs.small.short_reduced.Goals as goal

pub returns-then-n-eq0 : goal.returns-then-n-eq0
returns-then-n-eq0 c =
    let none : pos 0 ≡ c.args.n = sym (ap (to_z w64) c.if-n-eq0.true) ∙ to_z-of_z c.ranges.n in
    c.zero.ensures ∙ reduced_zero c.args.d c.requires.positive ∙ ap (λ z. reduced z c.args.d) none

pub invariant_of-result : goal.invariant_of-result
invariant_of-result c =
    let n : SFits w64 c.args.n = c.ranges.n in
    let short : SFits w64 c.signed_quotient.result = search rules in
    let wide : SFits w128 c.signed_quotient.result = sfits_widen tt short in
    let es = c.short_divisor-shared.ensures.value ∙ ap (λ (k : ℕ). gcd k c.args.d) (simp to_z-of_z at c.unsigned_abs.ensures).value in
    let er = simp to_z-of_z at c.signed_quotient.ensures in
    let same = reduced_by c.args.n c.args.d c.short_divisor-shared.result c.signed_quotient.result c.short_quotient.result es er c.short_quotient.ensures in
    record {
      lowest = rw (to_z-of_z short, to_z-of_z wide) (subst IsLowest (sym same) (reduced_is_lowest c.args.n c.args.d c.requires.positive));
      above_fits = rw (to_z-of_z short, to_z-of_z wide) (short_is_below c.signed_quotient.result short);
      below_fits = omega arith;
    }

pub returns : goal.returns
returns c =
    let n : SFits w64 c.args.n = c.ranges.n in
    let short : SFits w64 c.signed_quotient.result = search rules in
    let wide : SFits w128 c.signed_quotient.result = sfits_widen tt short in
    let es = c.short_divisor-shared.ensures.value ∙ ap (λ (k : ℕ). gcd k c.args.d) (simp to_z-of_z at c.unsigned_abs.ensures).value in
    let er = simp to_z-of_z at c.signed_quotient.ensures in
    rw (to_z-of_z short, to_z-of_z wide) (reduced_by c.args.n c.args.d c.short_divisor-shared.result c.signed_quotient.result c.short_quotient.result es er c.short_quotient.ensures)
