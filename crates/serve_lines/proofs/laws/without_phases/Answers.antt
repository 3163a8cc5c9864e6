use Rattle.serve_lines.proofs.Without.{without_phases}
use Rattle.serve_lines.proofs.laws.without_phases.Goals as goal

pub returns : goal.returns
returns c = without_phases
