use Rattle.quote_lines.proofs.Thresholds.{quoted_lines_are_thresholds}
use Rattle.quote_lines.proofs.laws.quoted_lines_are_thresholds.Goals as goal

pub returns : goal.returns
returns c = quoted_lines_are_thresholds
