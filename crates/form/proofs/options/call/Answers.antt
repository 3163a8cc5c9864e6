use Rattle.std.proofs.Common.{◌≡◌, rules, get_or, pos, FitsSigned, to_z, of_z, ◌∙◌}
use Rattle.std.proofs.lemmas.Int.{to_z-of_z}
use mir.Syntax.{w16, w64}
use Rattle.form.proofs.Entries.{filled_more}
use Rattle.form.proofs.options.call.Goals as goal

pub loop-i-preserved : goal.loop-i-preserved
loop-i-preserved c =
    let weight = get_or c.args.weights.now c.loop-i.i (pos 0) in
    let fits : FitsSigned w64 c.from.result = search rules in
    let weight_fits : FitsSigned w16 weight = search rules in
    let x : to_z w64 (of_z w64 c.from.result) ≡ weight = to_z-of_z w64 c.from.result fits ∙ c.from.ensures ∙ to_z-of_z w16 weight weight_fits in
    filled_more _ _ _ _ _ c.loop-i.invariant c.loop-i-test.true c.requires.weights.1 x
