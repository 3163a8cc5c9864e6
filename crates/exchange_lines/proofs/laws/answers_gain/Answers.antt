use Rattle.exchange_lines.proofs.HouseGains.{answers_gain}
use Rattle.exchange_lines.proofs.laws.answers_gain.Goals as goal

pub returns : goal.returns
returns c = answers_gain
