use Rattle.std.proofs.Common.{◌∙◌, get_or, pos, refl, sym, arith}
use Rattle.form.specs.Payoff.{option_of}
use Rattle.pricing_oracle.proofs.SplitPlaces.{above_here, above_later, above_end}
use Rattle.pricing_oracle.proofs.splitting.has_above.Goals as goal

pub returns-then-is_above : goal.returns-then-is_above
returns-then-is_above c =
    sym (c.loop-i.invariant ∙ above_here c.args.n (option_of c.args.form.now) c.loop-i.i (get_or (option_of c.args.form.now) c.loop-i.i (pos 0)) (omega (arith, c.loop-i-test.true)) refl (sym c.is_above.ensures ∙ c.if-is_above.true))

pub loop-i-preserved : goal.loop-i-preserved
loop-i-preserved c =
    c.loop-i.invariant ∙ above_later c.args.n (option_of c.args.form.now) c.loop-i.i (get_or (option_of c.args.form.now) c.loop-i.i (pos 0)) (omega (arith, c.loop-i-test.true)) refl (sym c.is_above.ensures ∙ c.if-is_above.false)

pub returns : goal.returns
returns c = sym (c.loop-i.invariant ∙ above_end c.args.n (option_of c.args.form.now) c.loop-i.i (omega (arith, c.loop-i-test.false)))
