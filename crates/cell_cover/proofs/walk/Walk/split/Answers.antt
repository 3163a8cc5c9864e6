use Rattle.std.proofs.Common.{refl, subst}
use Rattle.std.proofs.lemmas.Result.{IfOk-weaker}
use Rattle.frac.specs.Range.{limit}
use Rattle.cell_cover.specs.Mixed.{IsUnsigned}
use Rattle.cell_cover.proofs.KeptStates.{split_goes, split_stops}
use Rattle.cell_cover.proofs.walk.Walk.split.Goals as goal

pub returns-in_ok-push-in-Ok-clause-step : goal.returns-in_ok-push-in-Ok-clause-step
returns-in_ok-push-in-Ok-clause-step c =
    let kinked = c.args.kinked in
    let found = subst (λ known. IsUnsigned kinked.classes.now known c.args.number (c.in-Some.class, c.in-Some.bound)) c.as_slice.ensures.value c.in-Some.ensures in
    IfOk-weaker c.change.result _ _ (λ taken changed. split_goes kinked.entries limit kinked.classes.now c.args.self.now _ c.change.new.self taken c.args.number c.in-Some.class c.in-Some.bound c.in-Ok.sums (record { sums_are = refl; known = refl; changes = refl; saved_are = c.in_ok-push-in-Ok.ensures.items }) changed found c.in-Ok.ensures) c.change.ensures.changed

pub returns-in-Err-clause-step : goal.returns-in-Err-clause-step
returns-in-Err-clause-step c =
    let kinked = c.args.kinked in
    let found = subst (λ known. IsUnsigned kinked.classes.now known c.args.number (c.in-Some.class, c.in-Some.bound)) c.as_slice.ensures.value c.in-Some.ensures in
    split_stops kinked.entries limit kinked.classes.now c.args.self.now c.args.number c.in-Some.class c.in-Some.bound c.in-Err.wide found c.in-Err.ensures
