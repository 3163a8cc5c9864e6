use Rattle.clearing.proofs.EnoughUnits.{units_suffice}
use Rattle.clearing.proofs.laws.units_suffice.Goals as goal

pub returns : goal.returns
returns c = units_suffice
