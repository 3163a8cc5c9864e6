use Rattle.integer_tableau.proofs.Eliminating.{exact_shared}
use Rattle.integer_tableau.proofs.divisor.common_divisor.Goals as goal

pub returns-in-Some : goal.returns-in-Some
returns-in-Some c = exact_shared _ c.args.found.number c.args.size c.in-Some.ensures
