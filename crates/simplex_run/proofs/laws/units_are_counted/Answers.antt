use Rattle.simplex_run.proofs.Counted.{units_are_counted}
use Rattle.simplex_run.proofs.laws.units_are_counted.Goals as goal

pub returns : goal.returns
returns c = units_are_counted
