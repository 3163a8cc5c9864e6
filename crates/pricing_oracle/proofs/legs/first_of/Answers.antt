use Rattle.sign_tree.specs.Left.{legs_left}
use Rattle.pricing_oracle.proofs.ByRole.{no_signs}
use Rattle.pricing_oracle.proofs.legs.first_of.Goals as goal

pub returns-in_err-sign : goal.returns-in_err-sign
returns-in_err-sign g c =
    let legs = legs_left g.N.Exact.fraction c.args.left.legs in
    rw (c.from_residual.ensures) (no_signs legs c.args.left.signs.now c.in_err-sign.ensures.cases)
