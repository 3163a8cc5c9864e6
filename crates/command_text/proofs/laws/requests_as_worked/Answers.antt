use Rattle.command_text.proofs.WorkedCommands.{requests_as_worked}
use Rattle.command_text.proofs.laws.requests_as_worked.Goals as goal

pub returns : goal.returns
returns c = requests_as_worked
