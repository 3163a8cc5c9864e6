use Rattle.std.proofs.Common.{rules, ◌+◌, ◌-◌, ◌<◌, arith}
use Rattle.newton_step.proofs.Carries.{joined, joined_borrow, whole_parts, whole_parts_borrow}
use Rattle.newton_step.proofs.differences.difference.Goals as goal

pub returns-then-taken-added-clause-value : goal.returns-then-taken-added-clause-value
returns-then-taken-added-clause-value c =
    let fits = whole_parts c.args.x c.args.y c.args.added c.args.taken c.args.factor c.requires.added c.if-taken-added.true c.requires.ordered in
    joined (c.args.x - c.args.y) (c.args.added - c.args.taken) c.args.x c.args.y c.args.added c.args.taken c.args.factor (omega (arith, fits)) (omega (arith, c.if-taken-added.true))

pub returns-else-taken-added-clause-value : goal.returns-else-taken-added-clause-value
returns-else-taken-added-clause-value c =
    let more : c.args.added < c.args.taken = search rules in
    let fits = whole_parts_borrow c.args.x c.args.y c.args.added c.args.taken c.args.factor more c.requires.ordered in
    joined_borrow (c.args.x - c.args.y - 1) (c.args.added + c.args.factor - c.args.taken) c.args.x c.args.y c.args.added c.args.taken c.args.factor (omega (arith, fits)) (omega (arith, c.requires.taken))
