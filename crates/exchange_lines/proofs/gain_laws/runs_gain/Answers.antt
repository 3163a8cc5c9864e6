use Rattle.exchange_lines.proofs.RunGains.{runs_gain}
use Rattle.exchange_lines.proofs.gain_laws.runs_gain.Goals as goal

pub returns : goal.returns
returns c = runs_gain
