use Rattle.simplex_run.proofs.Wider.{basics_differ}
use Rattle.simplex_run.proofs.laws.basics_differ.Goals as goal

pub returns : goal.returns
returns c = basics_differ
