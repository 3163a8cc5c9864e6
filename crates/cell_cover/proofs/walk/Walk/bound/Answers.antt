use Rattle.std.proofs.Common.{◌≡◌, ◌+◌, ◌-◌, map, refl, ap, sym, ◌∙◌, subst, arith, List, Ok, Err, None}
use Rattle.std.specs.Option.{option_map}
use Rattle.std.proofs.lemmas.Result.{IfOk-weaker}
use Rattle.exact_num.specs.Fits.{meaning}
use Rattle.frac.specs.Range.{limit}
use Rattle.frac.specs.Value.{fraction_of}
use Rattle.cell_cover.specs.declared.vectors.Row.{Row}
use Rattle.cell_cover.specs.declared.vectors.Knowledge.{Knowledge}
use Rattle.cell_cover.specs.Read.{multiplier_of}
use Rattle.cell_cover.specs.Rows.{row_of}
use Rattle.cell_cover.specs.Kinked.{classes_as, knowledge_as}
use Rattle.cell_cover.specs.Mixed.{IsUnsigned, mixed_bound, rebound}
use Rattle.cell_cover.proofs.KeptStates.{bound_goes, bound_stops}
use Rattle.cell_cover.proofs.walk.Walk.bound.Goals as goal

pub returns-in-Ok-Some-clause-step : goal.returns-in-Ok-Some-clause-step
returns-in-Ok-Some-clause-step c =
    let kinked = c.args.kinked in
    let n = kinked.entries in
    let class = c.in-Some.class in
    let before = c.in-Some.before in
    let minus = map multiplier_of c.args.minus.now in
    let plus = map multiplier_of c.args.plus.now in
    let found = subst (λ known. IsUnsigned kinked.classes.now known c.args.number (class, before)) c.as_slice.ensures.value c.in-Some.ensures in
    let made = (rw c.in-Ok-Some.field-0-is at c.in-Ok-Some.ensures) ∙ ap (λ (known : List Knowledge). rebound limit (fraction_of class.kink) (row_of n before) (row_of n c.args.self.now.sums) (mixed_bound limit n (classes_as kinked) (knowledge_as n known) (row_of n class.entries) minus plus)) c.as_slice-2.ensures.value in
    let entries : n - 1 + 1 ≡ n = omega (arith, kinked.within.0) in
    IfOk-weaker c.change.result _ _
    (λ taken changed. bound_goes n limit (n - 1) kinked.classes.now c.args.self.now _ c.change.new.self taken c.args.number class before c.in-Ok-Some.next c.in-Ok-Some.sums minus plus entries (record { sums_are = refl; known = refl; changes = refl; saved_are = refl }) changed found made) c.change.ensures.changed

pub returns-in-Ok-None-clause-step : goal.returns-in-Ok-None-clause-step
returns-in-Ok-None-clause-step c =
    let kinked = c.args.kinked in
    let n = kinked.entries in
    let class = c.in-Some.class in
    let before = c.in-Some.before in
    let minus = map multiplier_of c.args.minus.now in
    let plus = map multiplier_of c.args.plus.now in
    let found = subst (λ known. IsUnsigned kinked.classes.now known c.args.number (class, before)) c.as_slice.ensures.value c.in-Some.ensures in
    let pair = option_map (λ (p : Row × Row). (row_of n p.0, row_of n p.1)) in
    let made = sym (ap (meaning pair) (c.in-Ok-None.is ∙ ap (λ o. Ok o) c.in-Ok-None.field-0-is)) ∙ c.rebound.ensures
    ∙ ap (λ (known : List Knowledge). rebound limit (fraction_of class.kink) (row_of n before) (row_of n c.args.self.now.sums) (mixed_bound limit n (classes_as kinked) (knowledge_as n known) (row_of n class.entries) minus plus)) c.as_slice-2.ensures.value in
    let entries : n - 1 + 1 ≡ n = omega (arith, kinked.within.0) in
    bound_stops n limit (n - 1) kinked.classes.now c.args.self.now c.args.number class before minus plus (Ok None) entries found made

pub returns-in-Err-clause-step : goal.returns-in-Err-clause-step
returns-in-Err-clause-step c =
    let kinked = c.args.kinked in
    let n = kinked.entries in
    let class = c.in-Some.class in
    let before = c.in-Some.before in
    let minus = map multiplier_of c.args.minus.now in
    let plus = map multiplier_of c.args.plus.now in
    let found = subst (λ known. IsUnsigned kinked.classes.now known c.args.number (class, before)) c.as_slice.ensures.value c.in-Some.ensures in
    let made = c.in-Err.ensures
    ∙ ap (λ (known : List Knowledge). rebound limit (fraction_of class.kink) (row_of n before) (row_of n c.args.self.now.sums) (mixed_bound limit n (classes_as kinked) (knowledge_as n known) (row_of n class.entries) minus plus)) c.as_slice-2.ensures.value in
    let entries : n - 1 + 1 ≡ n = omega (arith, kinked.within.0) in
    bound_stops n limit (n - 1) kinked.classes.now c.args.self.now c.args.number class before minus plus (Err c.in-Err.wide) entries found made
