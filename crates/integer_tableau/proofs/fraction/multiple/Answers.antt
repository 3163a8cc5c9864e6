use Rattle.std.proofs.Common.{◌*◌, ◌/◌, ◌∙◌, ap, subst, sym, ◌<◌}
use Rattle.std.proofs.Math.Nat.{mul-pos}
use Rattle.arithmetic.specs.Gcd.{gcd}
use Rattle.arithmetic.proofs.GcdLaws.{gcd_pos_right, gcd_dvd_right, pos_of_quotient}
use Rattle.run_equivalence.specs.IntegerRows.{multiple}
use Rattle.integer_tableau.proofs.Taken.{multiple_one}
use Rattle.integer_tableau.proofs.Eliminating.{shared_above}
use Rattle.integer_tableau.proofs.fraction.multiple.Goals as goal

pub returns-then-one-eq1 : goal.returns-then-one-eq1
returns-then-one-eq1 c =
    let other = c.args.other in
    (sym (ap (λ one. multiple one other) c.if-one-eq1.true ∙ multiple_one other), c.requires.other.0, c.requires.other.1)

pub nonzero_div-product : goal.nonzero_div-product
nonzero_div-product c = shared_above c.args.one c.args.other c.gcd-shared.result c.requires.other.0 c.gcd-shared.ensures

pub returns-then-product-le-WIDEST : goal.returns-then-product-le-WIDEST
returns-then-product-le-WIDEST c =
    let one = c.args.one in
    let other = c.args.other in
    let quotient = pos_of_quotient other (gcd one other) c.requires.other.0 (gcd_pos_right one other c.requires.other.0) (gcd_dvd_right one other) in (
      ap (λ g. one * (other / g)) c.gcd-shared.ensures,
      subst (λ g. 0 < one * (other / g)) (sym c.gcd-shared.ensures) (mul-pos c.requires.one quotient),
      c.if-product-le-WIDEST.true,
    )
