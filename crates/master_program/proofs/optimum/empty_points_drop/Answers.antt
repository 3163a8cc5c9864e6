use Rattle.master_program.proofs.Dropped.{empty_points_drop}
use Rattle.master_program.proofs.optimum.empty_points_drop.Goals as goal

pub returns : goal.returns
returns c = empty_points_drop
