use Rattle.std.proofs.Common.{◌≡◌, ◌+◌, drop, get_or, pos, sym, ap, ◌∙◌, rules, FitsSigned, ℤ}
use Rattle.std.specs.Prelude.{int_lt}
use mir.Syntax.{w64}
use Rattle.std.proofs.lemmas.Int.{to_z-of_z}
use Rattle.form.specs.Payoff.{option_of}
use Rattle.cell_cover.proofs.FormEntries.{entry_first, begins_so}
use Rattle.cell_cover.specs.Classes.{begins_below}
use Rattle.cell_cover.proofs.factors.is_turned.Goals as goal

pub returns-then-weight-ne0 : goal.returns-then-weight-ne0
returns-then-weight-ne0 c =
    let form = c.args.form.now in
    let i = c.loop-i.i in
    let x = get_or form.entries i (pos 0) in
    let fits : FitsSigned w64 x = search rules in
    let here = entry_first form i c.loop-i-test.true in
    let some : x ≡ pos 0 → ⊥ = λ is. let h = c.if-weight-ne0.true in search rules in
    ap (λ (z : ℤ). int_lt z (pos 0)) (to_z-of_z w64 x fits) ∙ sym (begins_so x (drop (i + 1) (option_of form)) some) ∙ ap begins_below (sym here) ∙ sym c.loop-i.invariant
