use Rattle.std.proofs.Common.{◌≡◌, ◌/◌, ◌*ℤ◌, ◌∙◌, ap, pos, arith, rules, sym, to_z, of_z}
use Rattle.std.proofs.Math.Nat.{div_self}
use Rattle.std.proofs.lemmas.Int.{ints}
use mir.Syntax.{w128}
use Rattle.exact_num.specs.CommonDenominator.{amount_over}
use Rattle.integer_tableau.proofs.fraction.amount.Goals as goal

pub returns-then-below-denominator : goal.returns-then-below-denominator
returns-then-below-denominator g c =
    let fraction = g.N.Exact.fraction c.args.entry in
    let same : c.args.denominator ≡ fraction.denominator = search rules in
    let once : c.args.denominator / fraction.denominator ≡ 1 = ap (λ d. d / fraction.denominator) same ∙ div_self (g.met.N.Exact.lowest c.args.entry).positive in
    let above : to_z w128 (of_z w128 c.parts-above.result.0) ≡ fraction.numerator = search rules in
    let whole : fraction.numerator ≡ fraction.numerator *ℤ pos 1 = omega (arith, ints) in
    let amount : to_z w128 (of_z w128 c.parts-above.result.0) ≡ amount_over c.args.denominator fraction = above ∙ whole ∙ ap (λ n. fraction.numerator *ℤ pos n) (sym once) in
    rw amount at c.within.ensures.within
