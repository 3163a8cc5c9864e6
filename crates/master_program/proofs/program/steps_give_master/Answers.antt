use Rattle.master_program.proofs.Steps.{steps_give_master}
use Rattle.master_program.proofs.program.steps_give_master.Goals as goal

pub returns : goal.returns
returns c = steps_give_master
