use Rattle.master_program.proofs.Certifies.{master_certifies}
use Rattle.master_program.proofs.optimum.master_certifies.Goals as goal

pub returns : goal.returns
returns c = master_certifies
