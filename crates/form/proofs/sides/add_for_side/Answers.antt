use Rattle.std.proofs.Common.{◌≡◌, inl, inr, ◌⊎◌, pos, refl, rules, FitsSigned, w8, ◌∙◌}
use Rattle.exact_num.proofs.Units.{limit_at_least_one}
use Rattle.form.specs.declared.orders.Side.TheVariants.{Buy, Sell}
use Rattle.form.proofs.NothingAdded.{nothing_added, sign_zero}
use Rattle.form.proofs.sides.add_for_side.Goals as goal
use Rattle.form.proofs.sides.add_for_side.Goals.{then-sign-eq0-via-then-sign-eq0, then-sign-eq0-via-else-sign-eq0+then-sign-eq0-2}

pub returns-then-sign-eq0 : goal.returns-then-sign-eq0
returns-then-sign-eq0 g c =
    let number = g.met.N.Exact in
    let a = g.N.Exact.fraction c.args.a in
    let b = g.N.Exact.fraction c.args.b in
    let none : a.numerator ≡ pos 0 ⊎ b.numerator ≡ pos 0 = elim c.then-sign-eq0.branch [
      | then-sign-eq0-via-then-sign-eq0 w ↦
          let fits : FitsSigned w8 c.sign.result = search rules in
          inl (sign_zero c.sign.result _ c.sign.ensures fits w.if-sign-eq0.true)
      | then-sign-eq0-via-else-sign-eq0+then-sign-eq0-2 w ↦
          let fits : FitsSigned w8 w.sign-else-sign-eq0.result = search rules in
          inr (sign_zero w.sign-else-sign-eq0.result _ w.sign-else-sign-eq0.ensures fits w.if-sign-eq0-2.true)
    ] in
    nothing_added _ _ c.args.side a b (number.numerator_fits c.args.total) (number.denominator_fits c.args.total) (limit_at_least_one _ number.limit_positive) (number.lowest c.args.a) (number.lowest c.args.b) none

pub returns-in-Buy : goal.returns-in-Buy
returns-in-Buy g c =
    let side : c.args.side ≡ Buy = c.in-Buy.is in
    c.plus_product.ensures ∙ rw side refl

pub returns-in-Sell : goal.returns-in-Sell
returns-in-Sell g c =
    let side : c.args.side ≡ Sell = c.in-Sell.is in
    c.less_product.ensures ∙ rw side refl
