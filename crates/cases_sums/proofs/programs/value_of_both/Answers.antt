use Rattle.std.proofs.Common.{rules}
use Rattle.cases_sums.proofs.Found.{found_if}
use Rattle.cases_sums.proofs.programs.value_of_both.Goals as goal

pub value-requires : goal.value-requires
value-requires g = found_if _ _ _ _ g.run-found.ensures.holds g.run-found.ensures.run.answer g.run-found.ensures.run.contents (search rules)
