use Rattle.std.proofs.Common.{◌≡◌, ◌≤◌, ◌*◌, ◌*ℤ◌, ℕ, ℤ, pos, to_z, of_z, unsigned_abs, FitsSigned, arith, refl, subst, sym}
use Rattle.std.proofs.Math.Nat.{mul-le-mul}
use Rattle.std.proofs.lemmas.Int.{fits_signed_from_abs, to_z-of_z, to_z_pos, unsigned_abs-mul}
use mir.Syntax.{w64, w128}
use Rattle.frac.specs.Range.{narrow_limit}
use Rattle.frac.proofs.frac64.Frac64.cross_product.Goals as goal

product_fits : (a : ℤ) (b : ℕ) → unsigned_abs a ≤ narrow_limit → b ≤ narrow_limit → FitsSigned w128 (a *ℤ pos b)
product_fits a b above below =
    let size : unsigned_abs (a *ℤ pos b) ≤ narrow_limit * narrow_limit = subst (λ n. n ≤ narrow_limit * narrow_limit) (sym (unsigned_abs-mul a (pos b))) (mul-le-mul above below) in
    fits_signed_from_abs w128 (a *ℤ pos b) (omega (arith, size))

factors : (a : ℤ) (b : ℕ) → unsigned_abs a ≤ narrow_limit → b ≤ narrow_limit
    → to_z w128 (of_z w128 (to_z w64 (of_z w64 a))) *ℤ to_z w128 b ≡ a *ℤ pos b
factors a b above below =
    let short : FitsSigned w64 a = fits_signed_from_abs w64 a (omega (arith, above)) in
    let long : FitsSigned w128 a = fits_signed_from_abs w128 a (omega (arith, above)) in
    rw (to_z-of_z w64 a short, to_z-of_z w128 a long, to_z_pos w128 b (omega (arith, below))) refl

pub returns : goal.returns
returns c =
    let self = c.args.self in
    let other = c.args.other in
    let fits = product_fits self.numerator other.denominator self.within.above other.within.below in
    rw (factors self.numerator other.denominator self.within.above other.within.below) (to_z-of_z w128 _ fits)

pub overflow_mul-result : goal.overflow_mul-result
overflow_mul-result c =
    let self = c.args.self in
    let other = c.args.other in
    rw (factors self.numerator other.denominator self.within.above other.within.below)
    (product_fits self.numerator other.denominator self.within.above other.within.below)
