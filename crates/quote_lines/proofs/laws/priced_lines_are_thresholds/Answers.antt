use Rattle.quote_lines.proofs.Thresholds.{priced_lines_are_thresholds}
use Rattle.quote_lines.proofs.laws.priced_lines_are_thresholds.Goals as goal

pub returns : goal.returns
returns c = priced_lines_are_thresholds
