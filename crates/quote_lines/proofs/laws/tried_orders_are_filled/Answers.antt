use Rattle.quote_lines.proofs.Thresholds.{tried_orders_are_filled}
use Rattle.quote_lines.proofs.laws.tried_orders_are_filled.Goals as goal

pub returns : goal.returns
returns c = tried_orders_are_filled
