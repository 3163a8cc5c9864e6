use Rattle.std.proofs.Common.{refl, ap, ◌∙◌}
use Rattle.std.proofs.lemmas.Result.{IfOk-weaker}
use Rattle.frac.specs.Range.{limit}
use Rattle.cell_cover.specs.Closed.{Minus}
use Rattle.cell_cover.specs.Rows.{row_of}
use Rattle.cell_cover.specs.Kinked.{classes_as}
use Rattle.cell_cover.specs.Mixed.{bound_by}
use Rattle.cell_cover.proofs.KeptStates.{minus_goes}
use Rattle.cell_cover.proofs.walk.Walk.minus.Goals as goal

pub returns-in-Ok-clause-step : goal.returns-in-Ok-clause-step
returns-in-Ok-clause-step c =
    let kinked = c.args.kinked in
    let n = kinked.entries in
    let change = c.args.change in
    let top = c.in-Some.sums in
    let made = c.in-Ok.ensures ∙ ap (λ K. bound_by limit Minus K (row_of n change.before) (row_of n top)) (c.kink_at-kink.ensures n) in
    IfOk-weaker c.change.result _ _
    (λ taken changed. minus_goes n limit (classes_as kinked) c.args.self.now _ c.change.new.self taken change top c.in-Ok.sums c.pop.new.self.items c.in-Some.ensures.items (record { sums_are = refl; known = refl; changes = refl; saved_are = refl }) changed c.requires made) c.change.ensures.changed
