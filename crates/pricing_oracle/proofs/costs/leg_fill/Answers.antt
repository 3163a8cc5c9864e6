use Rattle.std.proofs.Common.{sym, unsigned_abs}
use Rattle.exact_num.proofs.Units.{limit_at_least_one}
use Rattle.sign_tree.specs.Left.{leg_as}
use Rattle.master_program.proofs.OneLeg.{one_count_fills}
use Rattle.pricing_oracle.proofs.costs.leg_fill.Goals as goal

pub returns-then-leg-eq1 : goal.returns-then-leg-eq1
returns-then-leg-eq1 g c =
    let laws = g.met.N.Exact in
    let fill = c.args.leg.fill in
    sym (one_count_fills (unsigned_abs g.N.Exact.LIMIT) (leg_as g.N.Exact.fraction c.args.leg) (limit_at_least_one g.N.Exact.LIMIT laws.limit_positive) (record { above = laws.numerator_fits fill; below = laws.denominator_fits fill }) c.if-leg-eq1.true)
