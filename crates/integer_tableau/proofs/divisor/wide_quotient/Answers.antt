use Rattle.std.proofs.lemmas.Int.{to_z-of_z}
use mir.Syntax.{w128}
use Rattle.integer_tableau.proofs.Eliminating.{undivided_signed}
use Rattle.integer_tableau.proofs.divisor.wide_quotient.Goals as goal

pub returns-then-divisor-eq1 : goal.returns-then-divisor-eq1
returns-then-divisor-eq1 c = rw (to_z-of_z w128 c.args.number c.ranges.number) (undivided_signed c.args.number c.args.divisor c.if-divisor-eq1.true)
