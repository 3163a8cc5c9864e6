use Rattle.command_text.proofs.WorkedCommands.{limits_as_worked}
use Rattle.command_text.proofs.laws.limits_as_worked.Goals as goal

pub returns : goal.returns
returns c = limits_as_worked
