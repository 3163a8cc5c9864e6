use Rattle.std.proofs.Common.{◌∙◌, get_or, pos, refl, sym, arith}
use Rattle.form.specs.Payoff.{option_of}
use Rattle.pricing_oracle.proofs.SplitPlaces.{below_here, below_later, below_end}
use Rattle.pricing_oracle.proofs.splitting.has_below.Goals as goal

pub returns-then-is_below : goal.returns-then-is_below
returns-then-is_below c =
    sym (c.loop-i.invariant ∙ below_here c.args.n (option_of c.args.form.now) c.loop-i.i (get_or (option_of c.args.form.now) c.loop-i.i (pos 0)) (omega (arith, c.loop-i-test.true)) refl (sym c.is_below.ensures ∙ c.if-is_below.true))

pub loop-i-preserved : goal.loop-i-preserved
loop-i-preserved c =
    c.loop-i.invariant ∙ below_later c.args.n (option_of c.args.form.now) c.loop-i.i (get_or (option_of c.args.form.now) c.loop-i.i (pos 0)) (omega (arith, c.loop-i-test.true)) refl (sym c.is_below.ensures ∙ c.if-is_below.false)

pub returns : goal.returns
returns c = sym (c.loop-i.invariant ∙ below_end c.args.n (option_of c.args.form.now) c.loop-i.i (omega (arith, c.loop-i-test.false)))
