use Rattle.simplex_run.proofs.Suffice.{units_suffice}
use Rattle.simplex_run.proofs.laws.units_suffice.Goals as goal

pub returns : goal.returns
returns c = units_suffice
