use Rattle.proposal_lines.proofs.AsRun.{all_answer_as_run}
use Rattle.proposal_lines.proofs.all_kinds_laws.all_answer_as_run.Goals as goal

pub returns : goal.returns
returns c = all_answer_as_run
