use Rattle.std.proofs.Common.{rules, FitsSigned}
use Rattle.std.proofs.lemmas.Int.{to_z-of_z}
use mir.Syntax.{w64}
use Rattle.frac.specs.Range.{limit}
use Rattle.frac.specs.Value.{fraction_of}
use Rattle.arithmetic.proofs.Integers.{le_pred}
use Rattle.sign_tree.proofs.ZeroTerms.{plus_nothing}
use Rattle.sign_tree.proofs.leaf.plus_times.Goals as goal

pub returns-then-is_nothing : goal.returns-then-is_nothing
returns-then-is_nothing c =
    let fits : FitsSigned w64 c.args.x = search rules in
    plus_nothing limit (fraction_of c.args.total) (fraction_of c.args.a) c.args.x (le_pred _ _ c.args.total.above_fits) (le_pred _ _ c.args.total.below_fits)
    (rw (← to_z-of_z w64 c.args.x fits) (c.is_nothing.ensures c.if-is_nothing.true))
