use Rattle.std.proofs.Common.{rules, arith}
use Rattle.integer_tableau.proofs.Numbers.{size_more, sizes_all}
use Rattle.integer_tableau.proofs.short_row.size_of.Goals as goal

pub loop-number-init : goal.loop-number-init
loop-number-init c k p = absurd (omega (arith, p))

pub loop-number-preserved : goal.loop-number-preserved
loop-number-preserved c =
    let i = c.loop-number.number-index in
    size_more c.loop-number.size c.unsigned_abs-size.result c.args.numbers.now i (search rules) c.loop-number.invariant

pub returns : goal.returns
returns c = sizes_all c.loop-number.size c.loop-number.number-index c.args.numbers.now (omega arith) c.loop-number.invariant
