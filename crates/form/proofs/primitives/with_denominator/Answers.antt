use Rattle.std.proofs.Common.{◌≡◌, ◌/◌, ◌^◌, ◌<◌, ◌≤ℤ◌, ℕ, ℤ, pos, to_z, of_z, rules, unsigned_abs, FitsSigned, subst, ap, sym, ◌∙◌}
use Rattle.std.proofs.lemmas.Int.{to_z-of_z, to_z_pos}
use mir.Syntax.{w128}
use Rattle.arithmetic.specs.Gcd.{gcd}
use Rattle.arithmetic.proofs.GcdLaws.{gcd_pos_right}
use Rattle.exact_num.specs.Fraction.{whole}
use Rattle.exact_num.specs.Fits.{mul_of}
use Rattle.form.proofs.Multiples.{quotient_fits, quotient_small}
use Rattle.form.proofs.primitives.with_denominator.Goals as goal

pub nonzero_div-rest : goal.nonzero_div-rest
nonzero_div-rest g c =
    let f = g.N.Exact.fraction c.args.entry in
    let fits : FitsSigned w128 c.parts-denominator.result.1 = search rules in
    let d : c.unsigned_abs.result ≡ f.denominator = c.unsigned_abs.ensures.value ∙ ap unsigned_abs (to_z-of_z w128 c.parts-denominator.result.1 fits ∙ c.parts-denominator.ensures.denominator) in
    let some : 0 < c.unsigned_abs.result = subst (λ (n : ℕ). 0 < n) (sym d) (g.met.N.Exact.lowest c.args.entry).positive in
    subst (λ (n : ℕ). 0 < n) (sym c.gcd.ensures) (gcd_pos_right c.unsigned_abs-number.result c.unsigned_abs.result some)

pub overflow_cast-rest : goal.overflow_cast-rest
overflow_cast-rest g c =
    let p = c.parts.result.0 in
    let fits : FitsSigned w128 c.parts.result.0 = search rules in
    let above : pos 1 ≤ℤ c.parts.result.0 = subst (λ (z : ℤ). pos 1 ≤ℤ z) (sym c.parts.ensures.numerator) c.requires in
    let n : c.unsigned_abs-number.result ≡ unsigned_abs c.parts.result.0 = c.unsigned_abs-number.ensures.value ∙ ap unsigned_abs (to_z-of_z w128 c.parts.result.0 fits) in
    subst (λ (m : ℕ). FitsSigned w128 (pos (m / c.gcd.result))) (sym n) (quotient_fits c.parts.result.0 c.gcd.result fits above)

pub returns : goal.returns
returns g c =
    let limit = unsigned_abs g.N.Exact.LIMIT in
    let D = g.N.Exact.fraction c.args.multiple in
    let f = g.N.Exact.fraction c.args.entry in
    let number = c.unsigned_abs-number.result in
    let size = unsigned_abs D.numerator in
    let fits_0 : FitsSigned w128 c.parts.result.0 = search rules in
    let fits_1 : FitsSigned w128 c.parts-denominator.result.1 = search rules in
    let p : to_z w128 (of_z w128 c.parts.result.0) ≡ c.parts.result.0 = to_z-of_z w128 c.parts.result.0 fits_0 in
    let q : to_z w128 (of_z w128 c.parts-denominator.result.1) ≡ pos f.denominator = to_z-of_z w128 c.parts-denominator.result.1 fits_1 ∙ c.parts-denominator.ensures.denominator in
    let above : pos 1 ≤ℤ c.parts.result.0 = subst (λ (z : ℤ). pos 1 ≤ℤ z) (sym c.parts.ensures.numerator) c.requires in
    let n : number ≡ unsigned_abs c.parts.result.0 = c.unsigned_abs-number.ensures.value ∙ ap unsigned_abs p in
    let d : c.unsigned_abs.result ≡ f.denominator = c.unsigned_abs.ensures.value ∙ ap unsigned_abs q in
    let small : number / c.gcd.result < 2 ^ 127 = subst (λ (m : ℕ). m / c.gcd.result < 2 ^ 127) (sym n) (quotient_small c.parts.result.0 c.gcd.result fits_0 above) in
    let left : to_z w128 (number / c.gcd.result) ≡ pos (size / gcd size f.denominator) =
    to_z_pos w128 (number / c.gcd.result) small
    ∙ ap (λ (h : ℕ). pos (number / h)) c.gcd.ensures
    ∙ ap (λ (m : ℕ). pos (m / gcd m c.unsigned_abs.result)) (n ∙ ap unsigned_abs c.parts.ensures.numerator)
    ∙ ap (λ (e : ℕ). pos (size / gcd size e)) d in
    c.product_of_wholes.ensures
    ∙ ap (λ (x : ℤ). mul_of limit (whole x) (whole (to_z w128 (of_z w128 c.parts-denominator.result.1)))) left
    ∙ ap (λ (x : ℤ). mul_of limit (whole (pos (size / gcd size f.denominator))) (whole x)) q
