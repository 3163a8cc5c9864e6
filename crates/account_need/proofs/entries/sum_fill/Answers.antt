use Rattle.std.proofs.Common.{unsigned_abs, rules, arith}
use Rattle.frac.specs.Value.{fraction_of}
use Rattle.account_need.proofs.Entered.{never_wide, sum_fill_is}
use Rattle.account_need.proofs.entries.sum_fill.Goals as goal

pub returns-in-Ok : goal.returns-in-Ok
returns-in-Ok c =
    sum_fill_is (unsigned_abs c.args.sum) (fraction_of c.in-Ok.fill) (fraction_of c.whole-size.result) (fraction_of c.whole-unit.result) (omega (arith, c.requires)) (search rules) (search rules) (search rules)

pub returns-in-Err : goal.returns-in-Err
returns-in-Err c =
    absurd (never_wide (unsigned_abs c.args.sum) c.in-Err.field-0 (fraction_of c.whole-size.result) (fraction_of c.whole-unit.result) (omega (arith, c.requires)) (search rules) (search rules) (search rules))
