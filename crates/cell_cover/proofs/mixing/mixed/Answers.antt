use Rattle.std.proofs.Common.{◌≡◌, ap, sym, ◌∙◌, Ok, Err, Some, None}
use Rattle.std.specs.Option.{option_map}
use Rattle.std.proofs.lemmas.Result.{err_from_is_err_and}
use Rattle.arithmetic.proofs.Lists.{drop_map}
use Rattle.exact_num.specs.Fits.{meaning}
use Rattle.frac.specs.Range.{limit}
use Rattle.cell_cover.specs.Read.{multiplier_of}
use Rattle.cell_cover.specs.Rows.{row_of}
use Rattle.cell_cover.specs.Kinked.{classes_as, knowledge_as}
use Rattle.cell_cover.proofs.Mixes.{mix_goes}
use Rattle.cell_cover.proofs.mixing.mixed.Goals as goal

pub returns-in_err-next : goal.returns-in_err-next
returns-in_err-next c =
    let p = err_from_is_err_and c.from_residual.result c.from_residual.ensures.1 in
    let kinked = c.args.kinked in
    let n = kinked.entries in
    let m = c.multiplier-item.result in
    let first = drop_map multiplier_of c.args.multipliers.now c.loop-multiplier.multiplier-index m c.loop-multiplier-test.true c.multiplier-item.is in
    let made : Err c.in_err-next.field-0.0 ≡ _ = sym (ap (meaning (option_map (row_of n))) c.in_err-next.was) ∙ c.mix_one.ensures in
    rw (p.1, p.2) (sym (mix_goes limit (classes_as kinked) (knowledge_as n c.args.known.now) (row_of n c.loop-multiplier.totals) _ _ (multiplier_of m) _ (Err c.in_err-next.field-0.0) first c.loop-multiplier.invariant made))

pub returns-in-None : goal.returns-in-None
returns-in-None c =
    let kinked = c.args.kinked in
    let n = kinked.entries in
    let m = c.multiplier-item.result in
    let first = drop_map multiplier_of c.args.multipliers.now c.loop-multiplier.multiplier-index m c.loop-multiplier-test.true c.multiplier-item.is in
    let made : Ok None ≡ _ = sym (ap (meaning (option_map (row_of n))) (c.in_ok-next.was ∙ ap (λ o. Ok o) c.in-None.is)) ∙ c.mix_one.ensures in
    sym (mix_goes limit (classes_as kinked) (knowledge_as n c.args.known.now) (row_of n c.loop-multiplier.totals) _ _ (multiplier_of m) _ (Ok None) first c.loop-multiplier.invariant made)

pub loop-multiplier-preserved : goal.loop-multiplier-preserved
loop-multiplier-preserved c =
    let kinked = c.args.kinked in
    let n = kinked.entries in
    let m = c.multiplier-item.result in
    let first = drop_map multiplier_of c.args.multipliers.now c.loop-multiplier.multiplier-index m c.loop-multiplier-test.true c.multiplier-item.is in
    let made : Ok (Some (row_of n c.in-Some.next)) ≡ _ = sym (ap (meaning (option_map (row_of n))) (c.in_ok-next.was ∙ ap (λ o. Ok o) c.in-Some.is)) ∙ c.mix_one.ensures in
    mix_goes limit (classes_as kinked) (knowledge_as n c.args.known.now) (row_of n c.loop-multiplier.totals) _ _ (multiplier_of m) _ (Ok (Some (row_of n c.in-Some.next))) first c.loop-multiplier.invariant made
