use Rattle.constraint_generation.proofs.Wider.{joint_runs_are_the_same, unjudged_runs_are_the_same}
use Rattle.constraint_generation.proofs.laws.runs_are_the_same.Goals as goal

pub returns : goal.returns
returns c = record { unjudged = unjudged_runs_are_the_same; joint = joint_runs_are_the_same }
