use Rattle.std.proofs.Common.{sym}
use Rattle.exact_num.proofs.Units.{mul-one_fits}
use Rattle.frac.specs.Range.{limit}
use Rattle.frac.specs.Value.{fraction_of}
use Rattle.arithmetic.proofs.Integers.{le_pred}
use Rattle.sign_tree.proofs.legs.leg_fill.Goals as goal

pub returns-then-leg-eq1 : goal.returns-then-leg-eq1
returns-then-leg-eq1 c =
    let fill = c.args.leg.fill in
    rw (c.if-leg-eq1.true) (sym (mul-one_fits limit (fraction_of fill) (le_pred _ _ fill.above_fits) (le_pred _ _ fill.below_fits)))
