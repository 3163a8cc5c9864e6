use Rattle.std.proofs.Common.{ℕ, ◌/◌, ◌∙◌, ap, pos, to_z-of_z, rules}
use Rattle.std.proofs.lemmas.Int.{fits_signed_from_abs}
use mir.Val.{SFits}
use mir.Syntax.{w128}
use Rattle.arithmetic.specs.Gcd.{gcd}
use Rattle.exact_num.specs.Fits.{signed_by}
use Rattle.frac.proofs.ProductSteps.{above_is, below_is, signed_quotient}
use Rattle.frac.proofs.products.short_factors.Goals as goal

pub returns-clause-above : goal.returns-clause-above
returns-clause-above c =
    let m = c.args.x.numerator in
    let n = c.args.y.numerator in
    let x : SFits w128 m = fits_signed_from_abs w128 _ c.args.x.above_fits in
    let y : SFits w128 n = fits_signed_from_abs w128 _ c.args.y.above_fits in
    let p : SFits w128 c.with_sign_of.result = search rules in
    let q : SFits w128 c.with_sign_of-2.result = search rules in
    let a = (simp to_z-of_z at c.unsigned_abs-a.ensures).value in
    let b = (simp to_z-of_z at c.unsigned_abs-c.ensures).value in
    let eg = c.short_divisor-g.ensures.value ∙ ap (λ (k : ℕ). gcd k c.args.y.denominator) a in
    let eh = c.short_divisor-h.ensures.value ∙ ap (λ (k : ℕ). gcd k c.args.x.denominator) b in
    let ep = simp to_z-of_z at c.with_sign_of.ensures in
    let eq = simp to_z-of_z at c.with_sign_of-2.ensures in
    let first = ep ∙ ap (λ (k : ℕ). signed_by m (pos k)) (c.short_quotient.ensures ∙ ap (λ (k : ℕ). k / c.short_divisor-g.result) a) ∙ signed_quotient m c.short_divisor-g.result in
    let second = eq ∙ ap (λ (k : ℕ). signed_by n (pos k)) (c.short_quotient-2.ensures ∙ ap (λ (k : ℕ). k / c.short_divisor-h.result) b) ∙ signed_quotient n c.short_divisor-h.result in
    simp to_z-of_z (above_is _ _ c.short_divisor-g.result c.short_divisor-h.result c.with_sign_of.result c.with_sign_of-2.result eg eh first second)

pub returns-clause-below : goal.returns-clause-below
returns-clause-below c =
    let x : SFits w128 c.args.x.numerator = fits_signed_from_abs w128 _ c.args.x.above_fits in
    let y : SFits w128 c.args.y.numerator = fits_signed_from_abs w128 _ c.args.y.above_fits in
    let a = (simp to_z-of_z at c.unsigned_abs-a.ensures).value in
    let b = (simp to_z-of_z at c.unsigned_abs-c.ensures).value in
    let eg = c.short_divisor-g.ensures.value ∙ ap (λ (k : ℕ). gcd k c.args.y.denominator) a in
    let eh = c.short_divisor-h.ensures.value ∙ ap (λ (k : ℕ). gcd k c.args.x.denominator) b in
    below_is _ _ c.short_divisor-g.result c.short_divisor-h.result _ _ eg eh c.short_quotient-3.ensures c.short_quotient-4.ensures
