use Rattle.arithmetic.proofs.Parts.{positive_part_above, positive_part_least}
use Rattle.arithmetic.proofs.positive_part_is_least.Goals as goal

pub returns : goal.returns
returns c = λ y. (positive_part_above y, positive_part_least y)
