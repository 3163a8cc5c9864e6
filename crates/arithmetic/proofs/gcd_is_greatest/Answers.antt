use Rattle.arithmetic.proofs.GcdLaws.{gcd_is}
use Rattle.arithmetic.proofs.gcd_is_greatest.Goals as goal

pub returns : goal.returns
returns c = gcd_is
