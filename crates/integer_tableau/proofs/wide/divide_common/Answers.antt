use Rattle.std.proofs.Common.{◌/◌, ◌∙◌}
use Rattle.run_equivalence.specs.IntegerRows.{integer_row}
use Rattle.integer_tableau.proofs.Cut.{common_above, common_below, cut_is}
use Rattle.integer_tableau.proofs.wide.divide_common.Goals as goal

pub divide_wide-requires-clause-above : goal.divide_wide-requires-clause-above
divide_wide-requires-clause-above c = common_above c.args.denominator c.common-divisor.result c.args.numbers.now c.requires.above c.common-divisor.ensures

pub divide_wide-requires-clause-below : goal.divide_wide-requires-clause-below
divide_wide-requires-clause-below c = common_below c.args.denominator c.common-divisor.result _ c.args.numbers.now c.requires.above c.requires.below c.common-divisor.ensures

pub nonzero_div-result : goal.nonzero_div-result
nonzero_div-result c = common_above c.args.denominator c.common-divisor.result c.args.numbers.now c.requires.above c.common-divisor.ensures

pub returns : goal.returns
returns c =
    (λ i. integer_row (c.args.denominator / c.common-divisor.result) (c.divide_wide.ensures i))
    ∙ cut_is c.args.denominator c.common-divisor.result c.args.numbers.now c.common-divisor.ensures
