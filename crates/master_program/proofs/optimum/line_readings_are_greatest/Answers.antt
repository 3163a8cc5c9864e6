use Rattle.master_program.proofs.Lines.{line_readings_are_greatest}
use Rattle.master_program.proofs.optimum.line_readings_are_greatest.Goals as goal

pub returns : goal.returns
returns c = line_readings_are_greatest
