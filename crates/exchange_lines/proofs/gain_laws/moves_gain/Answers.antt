use Rattle.exchange_lines.proofs.RunGains.{moves_gain}
use Rattle.exchange_lines.proofs.gain_laws.moves_gain.Goals as goal

pub returns : goal.returns
returns c = moves_gain
