use Rattle.constraint_generation.proofs.JointRuns.{cleared_is_greatest}
use Rattle.constraint_generation.proofs.laws.cleared_is_greatest.Goals as goal

pub returns : goal.returns
returns c = cleared_is_greatest
