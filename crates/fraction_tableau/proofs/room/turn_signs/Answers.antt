use Rattle.std.proofs.Common.{◌∙◌, sym, ap, arith}
use Rattle.exact_num.specs.Fraction.{negated}
use Rattle.fraction_tableau.proofs.Filling.{turned_more, turned_end}
use Rattle.fraction_tableau.proofs.room.turn_signs.Goals as goal

pub loop-number-preserved : goal.loop-number-preserved
loop-number-preserved g c =
    let value = g.N.Exact.fraction in
    let turned = c.neg.ensures ∙ ap (λ (z : g.row.N.Denot). negated (value z)) (sym c.number-item.is) in
    turned_more value c.args.numbers.now c.loop-number.numbers c.loop-number.number-index c.number-item.result _ (omega (arith, c.loop-number-test.true, c.loop-number.auto.numbers)) c.number-item.is turned c.loop-number.invariant

pub returns : goal.returns
returns g c = turned_end g.N.Exact.fraction c.args.numbers.now c.loop-number.numbers c.loop-number.number-index (omega (arith, c.loop-number-test.false, c.loop-number.auto.numbers)) c.loop-number.invariant
