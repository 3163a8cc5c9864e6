use Rattle.std.proofs.Common.{◌≡◌, false, rules, FitsSigned, map, pos, sym, ap, ◌∙◌}
use Rattle.std.specs.Prelude.{int_lt}
use Rattle.std.specs.Int.{int_signum}
use Rattle.std.proofs.lemmas.Int.{to_z-of_z}
use mir.Syntax.{w8}
use Rattle.frac.specs.Range.{limit}
use Rattle.frac.specs.Value.{fraction_of}
use Rattle.exact_num.specs.Fits.{meaning}
use Rattle.sign_tree.specs.Read.{placed_of, sign_of}
use Rattle.sign_tree.specs.Walk.{fraction_legs}
use Rattle.sign_tree.proofs.EntrySteps.{entries_step}
use Rattle.sign_tree.proofs.leaf.entries_close.Goals as goal

pub loop-i-preserved : goal.loop-i-preserved
loop-i-preserved c =
    let fits : FitsSigned w8 c.sign.result = search rules in
    let low : int_lt (pos 0) (int_signum (fraction_of c.in_ok-sum.sum).numerator) ≡ false = rw (← c.sign.ensures, ← to_z-of_z w8 c.sign.result fits) c.if-sign-gt0.false in
    c.loop-i.invariant ∙ entries_step limit (fraction_legs c.args.filled.now.orders.now (map fraction_of c.args.filled.now.fills.now)) (fraction_of c.args.filled.now.liability.now) (map sign_of c.args.signs.now) (map placed_of c.args.multipliers.now)
    c.loop-i.i c.args.filled.now.entries (fraction_of c.in_ok-sum.sum) c.loop-i-test.true (sym c.entry_sum.ensures ∙ ap (meaning fraction_of) c.in_ok-sum.was) low
