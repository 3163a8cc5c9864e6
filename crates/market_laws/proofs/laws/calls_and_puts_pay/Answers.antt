use Rattle.market_laws.proofs.Payoff.{calls_and_puts_pay}
use Rattle.market_laws.proofs.laws.calls_and_puts_pay.Goals as goal

pub returns : goal.returns
returns c = calls_and_puts_pay
