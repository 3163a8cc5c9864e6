use Rattle.guarded_lines.proofs.Covered.{withdrawals_are_covered}
use Rattle.guarded_lines.proofs.laws.withdrawals_are_covered.Goals as goal

pub returns : goal.returns
returns c = withdrawals_are_covered
