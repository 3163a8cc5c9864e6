use Rattle.portfolio_margin.proofs.Rounded.{liabilities_are_rounded_up}
use Rattle.portfolio_margin.proofs.laws.liabilities_are_rounded_up.Goals as goal

pub returns : goal.returns
returns c = liabilities_are_rounded_up
