use Rattle.std.proofs.Common.{◌≡◌, ◌∙◌, sym, ap, subst, to_z-of_z, rules, ℤ, ℕ, pos}
use Rattle.std.proofs.lemmas.Int.{fits_signed_from_abs}
use mir.Val.{SFits}
use mir.Syntax.{w128}
use Rattle.exact_num.specs.Fraction.{IsLowest, over}
use Rattle.exact_num.specs.Fits.{inverse, signed_by}
use Rattle.exact_num.proofs.ProductValues.{inverse_is_lowest, unsigned_abs-signed_by}
use Rattle.frac.specs.Value.{fraction_of}
use Rattle.frac.proofs.products.reciprocal.Goals as goal

pub returns : goal.returns
unfolding inverse
returns c =
    let x : SFits w128 c.args.x.numerator = fits_signed_from_abs w128 _ c.args.x.above_fits in
    let r : SFits w128 c.with_sign_of.result = search rules in
    let above = simp to_z-of_z at c.with_sign_of.ensures in
    let below = simp to_z-of_z at c.unsigned_abs.ensures.value in
    rw (to_z-of_z r) (ap (λ (z : ℤ). over z c.unsigned_abs.result) above ∙ ap (λ (n : ℕ). over (signed_by c.args.x.numerator (pos c.args.x.denominator)) n) below)

pub invariant_of-result : goal.invariant_of-result
unfolding inverse
invariant_of-result c =
    let x : SFits w128 c.args.x.numerator = fits_signed_from_abs w128 _ c.args.x.above_fits in
    let r : SFits w128 c.with_sign_of.result = search rules in
    let above = simp to_z-of_z at c.with_sign_of.ensures in
    let below = simp to_z-of_z at c.unsigned_abs.ensures.value in
    let same : over c.with_sign_of.result c.unsigned_abs.result ≡ inverse (fraction_of c.args.x) =
    ap (λ (z : ℤ). over z c.unsigned_abs.result) above ∙ ap (λ (n : ℕ). over (signed_by c.args.x.numerator (pos c.args.x.denominator)) n) below in
    record {
      lowest = rw (to_z-of_z r) (subst IsLowest (sym same) (inverse_is_lowest _ c.args.x.lowest c.requires));
      above_fits = rw (to_z-of_z r, above, unsigned_abs-signed_by) c.args.x.below_fits;
      below_fits = rw below c.args.x.above_fits;
    }
