use Rattle.constraint_generation.proofs.JointRuns.{cleared_passes_the_verdict}
use Rattle.constraint_generation.proofs.laws.cleared_passes_the_verdict.Goals as goal

pub returns : goal.returns
returns c = cleared_passes_the_verdict
