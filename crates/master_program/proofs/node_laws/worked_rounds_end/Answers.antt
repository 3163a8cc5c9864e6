use Rattle.master_program.proofs.WorkedRounds.{sum_is_covered, second_round_clears, bundle_is_covered, other_batches_end}
use Rattle.master_program.proofs.node_laws.worked_rounds_end.Goals as goal

pub returns-clause-covered_sum : goal.returns-clause-covered_sum
returns-clause-covered_sum c = sum_is_covered

pub returns-clause-two_rounds : goal.returns-clause-two_rounds
returns-clause-two_rounds c = second_round_clears

pub returns-clause-covered_bundle : goal.returns-clause-covered_bundle
returns-clause-covered_bundle c = bundle_is_covered

pub returns-clause-other_batches : goal.returns-clause-other_batches
returns-clause-other_batches c = other_batches_end
