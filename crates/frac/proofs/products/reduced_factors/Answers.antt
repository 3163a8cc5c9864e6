use Rattle.std.proofs.Common.{to_z-of_z, rules}
use Rattle.std.proofs.lemmas.Int.{fits_signed_from_abs}
use mir.Val.{SFits}
use mir.Syntax.{w128}
use Rattle.frac.proofs.ProductSteps.{above_is, below_is}
use Rattle.frac.proofs.products.reduced_factors.Goals as goal

pub returns-clause-above : goal.returns-clause-above
returns-clause-above c =
    let x : SFits w128 c.args.x.numerator = fits_signed_from_abs w128 _ c.args.x.above_fits in
    let y : SFits w128 c.args.y.numerator = fits_signed_from_abs w128 _ c.args.y.above_fits in
    let p : SFits w128 c.quotient.result = search rules in
    let q : SFits w128 c.quotient-2.result = search rules in
    let eg = simp to_z-of_z at c.common-g.ensures.value in
    let eh = simp to_z-of_z at c.common-h.ensures.value in
    let ep = simp to_z-of_z at c.quotient.ensures in
    let eq = simp to_z-of_z at c.quotient-2.ensures in
    simp to_z-of_z (above_is _ _ c.common-g.result c.common-h.result c.quotient.result c.quotient-2.result eg eh ep eq)

pub returns-clause-below : goal.returns-clause-below
returns-clause-below c =
    let x : SFits w128 c.args.x.numerator = fits_signed_from_abs w128 _ c.args.x.above_fits in
    let y : SFits w128 c.args.y.numerator = fits_signed_from_abs w128 _ c.args.y.above_fits in
    let eg = simp to_z-of_z at c.common-g.ensures.value in
    let eh = simp to_z-of_z at c.common-h.ensures.value in
    below_is _ _ c.common-g.result c.common-h.result _ _ eg eh c.natural_quotient.ensures c.natural_quotient-2.ensures
