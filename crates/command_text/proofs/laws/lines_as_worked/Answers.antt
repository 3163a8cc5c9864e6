use Rattle.command_text.proofs.WorkedCommands.{lines_as_worked}
use Rattle.command_text.proofs.laws.lines_as_worked.Goals as goal

pub returns : goal.returns
returns c = lines_as_worked
