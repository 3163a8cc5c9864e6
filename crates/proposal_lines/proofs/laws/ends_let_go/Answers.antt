use Rattle.proposal_lines.proofs.LettingGo.{ends_let_go}
use Rattle.proposal_lines.proofs.laws.ends_let_go.Goals as goal

pub returns : goal.returns
returns c = ends_let_go
