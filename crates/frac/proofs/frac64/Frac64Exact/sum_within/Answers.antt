use Rattle.std.proofs.Common.{sym, ap, ◌∙◌}
use Rattle.std.specs.Option.{option_map}
use Rattle.frac.specs.Value.{fraction_of}
use Rattle.frac.proofs.SumSteps.{sum_is_within}
use Rattle.frac.proofs.frac64.Frac64Exact.sum_within.Goals as goal

pub narrow-requires : goal.narrow-requires
narrow-requires c =
    sum_is_within _ _ _ _ c.widen.result.lowest c.widen-2.result.lowest (ap (option_map fraction_of) (sym c.in_ok-value.was) ∙ c.sum.ensures)
