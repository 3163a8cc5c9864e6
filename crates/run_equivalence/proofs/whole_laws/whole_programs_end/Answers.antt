use Rattle.run_equivalence.proofs.WorkedWhole.{whole_programs_end}
use Rattle.run_equivalence.proofs.whole_laws.whole_programs_end.Goals as goal

pub returns : goal.returns
returns c = whole_programs_end
