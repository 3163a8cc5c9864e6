use Rattle.std.proofs.Common.{◌∙◌, to_z-of_z}
use Rattle.frac.specs.Value.{fraction_of}
use Rattle.frac.proofs.Reducing.{product_reduced}
use Rattle.frac.proofs.SmallSteps.{numerators_fit}
use Rattle.frac.proofs.small.small_product.Goals as goal

pub returns : goal.returns
returns c =
    let p = numerators_fit c.args.x.numerator c.args.y.numerator c.requires.left.0 c.requires.right.0 in
    (simp (p.left, p.right, to_z-of_z p.short) at c.short_reduced.ensures)
    ∙ product_reduced (fraction_of c.args.x) (fraction_of c.args.y) c.args.x.lowest c.args.y.lowest
