use Rattle.line_cover.proofs.WorkedLines.{lines_by_hand}
use Rattle.line_cover.proofs.laws.lines_by_hand.Goals as goal

pub returns : goal.returns
returns c = lines_by_hand
