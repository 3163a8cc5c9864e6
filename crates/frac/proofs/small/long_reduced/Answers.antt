use Rattle.std.proofs.Common.{sym, subst, to_z-of_z, rules, arith}
use mir.Val.{SFits}
use mir.Syntax.{w128}
use Rattle.std.proofs.Math.Nat.{div-le_self}
use Rattle.exact_num.specs.Fraction.{IsLowest}
use Rattle.exact_num.specs.Rationals.{reduced_is_lowest}
use Rattle.frac.proofs.Reducing.{reduced_by}
use Rattle.frac.proofs.SmallSteps.{quotient_is_below}
use Rattle.frac.proofs.small.long_reduced.Goals as goal

pub invariant_of-result : goal.invariant_of-result
invariant_of-result c =
    let n : SFits w128 c.args.n = c.ranges.n in
    let q : SFits w128 c.quotient.result = search rules in
    let es = simp to_z-of_z at c.common-shared.ensures.value in
    let er = simp to_z-of_z at c.quotient.ensures in
    let same = reduced_by c.args.n c.args.d c.common-shared.result c.quotient.result c.natural_quotient.result es er c.natural_quotient.ensures in
    record {
      lowest = rw (to_z-of_z q) (subst IsLowest (sym same) (reduced_is_lowest c.args.n c.args.d c.requires.positive));
      above_fits = rw (to_z-of_z q) (quotient_is_below _ c.args.n c.quotient.result c.common-shared.result c.requires.above er);
      below_fits = rw c.natural_quotient.ensures (omega (arith, c.requires.in_range, div-le_self c.args.d c.common-shared.result));
    }

pub returns : goal.returns
returns c =
    let n : SFits w128 c.args.n = c.ranges.n in
    let q : SFits w128 c.quotient.result = search rules in
    let es = simp to_z-of_z at c.common-shared.ensures.value in
    let er = simp to_z-of_z at c.quotient.ensures in
    rw (to_z-of_z q) (reduced_by c.args.n c.args.d c.common-shared.result c.quotient.result c.natural_quotient.result es er c.natural_quotient.ensures)
