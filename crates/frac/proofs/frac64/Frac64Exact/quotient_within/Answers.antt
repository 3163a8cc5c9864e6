use Rattle.std.proofs.Common.{sym, ap, ◌∙◌}
use Rattle.std.specs.Option.{option_map}
use Rattle.frac.specs.Value.{fraction_of}
use Rattle.frac.proofs.ProductSteps.{product_is_within}
use Rattle.frac.proofs.frac64.Frac64Exact.quotient_within.Goals as goal

pub narrow-requires : goal.narrow-requires
narrow-requires c =
    product_is_within _ _ _ _ c.widen.result.lowest c.reciprocal.result.lowest (ap (option_map fraction_of) (sym c.in_ok-value.was) ∙ c.product.ensures)
