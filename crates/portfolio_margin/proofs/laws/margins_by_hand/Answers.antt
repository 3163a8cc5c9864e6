use Rattle.portfolio_margin.proofs.WorkedMargins.{margins_by_hand, needs_by_hand}
use Rattle.portfolio_margin.proofs.laws.margins_by_hand.Goals as goal

pub returns-clause-margins : goal.returns-clause-margins
returns-clause-margins c = margins_by_hand

pub returns-clause-need : goal.returns-clause-need
returns-clause-need c = needs_by_hand
