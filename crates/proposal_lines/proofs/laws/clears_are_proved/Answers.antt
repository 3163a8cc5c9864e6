use Rattle.proposal_lines.proofs.Clearing.{clears_are_proved}
use Rattle.proposal_lines.proofs.laws.clears_are_proved.Goals as goal

pub returns : goal.returns
returns c = clears_are_proved
