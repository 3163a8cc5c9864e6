use Rattle.portfolio_margin.proofs.LeastMargins.{each_run_ends}
use Rattle.portfolio_margin.proofs.laws.each_run_ends.Goals as goal

pub returns : goal.returns
returns c = each_run_ends
