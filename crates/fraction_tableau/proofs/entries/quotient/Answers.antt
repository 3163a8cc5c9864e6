use Rattle.std.proofs.Common.{◌∙◌, sym, unsigned_abs}
use Rattle.exact_num.proofs.Units.{limit_at_least_one}
use Rattle.fraction_tableau.proofs.Skips.{zero_over}
use Rattle.fraction_tableau.proofs.entries.quotient.Goals as goal

pub returns-then-is_zero : goal.returns-then-is_zero
returns-then-is_zero g c =
    let laws = g.met.N.Exact in
    let value = g.N.Exact.fraction in
    let x = c.args.entry in
    let y = c.args.divisor in
    sym (zero_over (unsigned_abs g.N.Exact.LIMIT) (value x) (value y) (limit_at_least_one g.N.Exact.LIMIT laws.limit_positive)
    (record { lowest = laws.lowest x; above = laws.numerator_fits x; below = laws.denominator_fits x }) (record { lowest = laws.lowest y; above = laws.numerator_fits y; below = laws.denominator_fits y })
    (sym c.is_zero.ensures ∙ c.if-is_zero.true) c.requires)
