use Rattle.exchange_lines.proofs.AsRun.{runs_are_by_lines}
use Rattle.exchange_lines.proofs.laws.runs_are_by_lines.Goals as goal

pub returns : goal.returns
returns c = runs_are_by_lines
