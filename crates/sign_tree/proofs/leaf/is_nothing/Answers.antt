use Rattle.std.proofs.Common.{arith, rules, FitsSigned, refl, sym, ◌∙◌}
use mir.Syntax.{w8, w64}
use Rattle.frac.specs.Range.{limit}
use Rattle.frac.specs.Value.{fraction_of}
use Rattle.form.proofs.NothingAdded.{zero_sign}
use Rattle.sign_tree.proofs.ZeroTerms.{zero_bits, times_zero, zero_times}
use Rattle.sign_tree.proofs.leaf.is_nothing.Goals as goal

pub returns-then-x-eq0 : goal.returns-then-x-eq0
returns-then-x-eq0 c h =
    let fits : FitsSigned w64 c.args.x = search rules in
    times_zero limit (fraction_of c.args.a) c.args.x c.args.a.lowest (omega arith) (zero_bits w64 c.args.x fits refl h)

pub returns-else-x-eq0 : goal.returns-else-x-eq0
returns-else-x-eq0 c h =
    let fits : FitsSigned w8 c.sign.result = search rules in
    zero_times limit (fraction_of c.args.a) c.args.x c.args.a.lowest (omega arith) (zero_sign c.args.a.numerator (sym c.sign.ensures ∙ zero_bits w8 c.sign.result fits refl h))
