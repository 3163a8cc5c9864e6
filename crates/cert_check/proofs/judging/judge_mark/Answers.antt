use Rattle.std.proofs.Common.{subst}
use Rattle.cert_check.specs.Shape.{IsMarkOn}
use Rattle.cert_check.proofs.judging.judge_mark.Goals as goal

pub judge_measure-requires-clause-states : goal.judge_measure-requires-clause-states
judge_measure-requires-clause-states c = (subst (IsMarkOn c.args.batch.now.underlyings) c.in-Optimal.is c.requires.mark).1
