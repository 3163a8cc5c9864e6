use Rattle.std.proofs.Common.{rules}
use Rattle.frac.specs.Range.{IsSmall}
use Rattle.frac.specs.Value.{fraction_of}
use Rattle.frac.proofs.SmallSteps.{small_sum_answers}
use Rattle.frac.proofs.frac128.Frac128Exact.sum_within.Goals as goal

pub returns-then-is_small-2 : goal.returns-then-is_small-2
returns-then-is_small-2 c =
    let p : IsSmall (fraction_of c.args.self) = search rules in
    let q : IsSmall (fraction_of c.args.other) = search rules in
    small_sum_answers (fraction_of c.args.self) (fraction_of c.args.other) (fraction_of c.small_sum.result) p q c.small_sum.ensures
