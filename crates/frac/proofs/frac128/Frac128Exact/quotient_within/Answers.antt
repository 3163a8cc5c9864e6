use Rattle.std.proofs.Common.{◌∙◌, ap}
use Rattle.exact_num.specs.Fits.{product_within}
use Rattle.frac.specs.Range.{limit}
use Rattle.frac.specs.Value.{fraction_of}
use Rattle.frac.proofs.frac128.Frac128Exact.quotient_within.Goals as goal

pub returns : goal.returns
returns c = c.product_within.ensures ∙ ap (product_within limit (fraction_of c.args.self)) c.reciprocal.ensures
