use Rattle.std.proofs.Common.{◌≤◌, ◌<◌, ◌≡◌, arith, rules, length, map, neg_ℤ, get_or, pos, FitsSigned, to_z, of_z, ap, sym, ◌∙◌}
use Rattle.std.proofs.lemmas.Int.{to_z-of_z}
use Rattle.std.proofs.lemmas.List.{length-map, get_or-map}
use mir.Syntax.{w16, w64}
use Rattle.form.proofs.Entries.{filled_more}
use Rattle.form.proofs.options.put.Goals as goal

pub loop-i-preserved : goal.loop-i-preserved
loop-i-preserved c =
    let ws = c.args.weights.now in
    let i = c.loop-i.i in
    let within : i < length (map neg_ℤ ws) = omega (arith, length-map ws neg_ℤ) in
    let few : length (map neg_ℤ ws) ≤ 8 = omega (arith, length-map ws neg_ℤ) in
    let fits : FitsSigned w64 c.opposite.result = search rules in
    let weight_fits : FitsSigned w16 (get_or ws i (pos 0)) = search rules in
    let x : to_z w64 (of_z w64 c.opposite.result) ≡ get_or (map neg_ℤ ws) i (pos 0) =
    to_z-of_z w64 c.opposite.result fits ∙ c.opposite.ensures
    ∙ ap neg_ℤ (to_z-of_z w16 (get_or ws i (pos 0)) weight_fits)
    ∙ sym (get_or-map neg_ℤ ws i (pos 0) (pos 0) c.loop-i-test.true) in
    filled_more _ _ _ _ _ c.loop-i.invariant within few x
