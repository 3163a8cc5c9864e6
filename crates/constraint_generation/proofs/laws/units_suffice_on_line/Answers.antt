use Rattle.constraint_generation.proofs.EnoughUnits.{units_suffice_on_line}
use Rattle.constraint_generation.proofs.laws.units_suffice_on_line.Goals as goal

pub returns : goal.returns
returns c = units_suffice_on_line
