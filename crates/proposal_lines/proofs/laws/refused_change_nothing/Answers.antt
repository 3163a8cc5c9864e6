use Rattle.proposal_lines.proofs.Sound.{refused_change_nothing}
use Rattle.proposal_lines.proofs.laws.refused_change_nothing.Goals as goal

pub returns : goal.returns
returns c = refused_change_nothing
