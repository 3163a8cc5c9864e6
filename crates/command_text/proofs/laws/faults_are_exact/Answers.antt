use Rattle.command_text.proofs.FaultsExact.{range_is_first_outside, syntax_is_no_number}
use Rattle.command_text.proofs.laws.faults_are_exact.Goals as goal

pub returns-clause-syntax : goal.returns-clause-syntax
returns-clause-syntax c = syntax_is_no_number

pub returns-clause-range : goal.returns-clause-range
returns-clause-range c = range_is_first_outside
