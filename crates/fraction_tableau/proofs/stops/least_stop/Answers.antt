use Rattle.std.proofs.Common.{◌<◌, ◌+◌, ◌∙◌, sym, ap, arith, length, map, drop, unsigned_abs, slice_index_or, ℕ}
use Rattle.std.specs.Prelude.{Result}
use Rattle.std.proofs.lemmas.List.Elements.{All-get_or}
use Rattle.exact_num.specs.Fraction.{Fraction}
use Rattle.exact_num.specs.declared.misfit.Wide.{Wide}
use Rattle.simplex_run.specs.Places.{at}
use Rattle.simplex_run.specs.Table.{with_right}
use Rattle.simplex_run.specs.Pivot.{Stop}
use Rattle.fraction_tableau.specs.Labels.{as_stop, smaller_stop, least_stop, step_with, steps_with}
use Rattle.fraction_tableau.proofs.EntrySteps.{at-map}
use Rattle.fraction_tableau.proofs.Sweeps.{stop_more, stop_end}
use Rattle.fraction_tableau.proofs.stops.least_stop.Goals as goal

pub loop-i-preserved : goal.loop-i-preserved
loop-i-preserved g c =
    let value = g.N.Exact.fraction in
    let L = unsigned_abs g.N.Exact.LIMIT in
    let row = c.args.row.now in
    let pivot = c.args.pivot.now in
    let labels = with_right c.args.columns c.args.labels.now in
    let places = c.args.places.now in
    let step = c.args.step in
    let steps = steps_with value L step (map value row) (map value pivot) in
    let k = slice_index_or places c.loop-i.i 0 in
    let low : c.loop-i.i < length places = omega (arith, c.loop-i-test.true) in
    let inside = All-get_or (λ (place : ℕ). place < length c.args.labels.now + 1) places c.loop-i.i 0 low c.requires.places in
    let in_row : k < length row = omega (arith, inside, c.requires.widths.0) in
    let in_pivot : k < length pivot = omega (arith, inside, c.requires.widths.1) in
    let entry = at-map value row k c.index-row-place.result in_row c.index-row-place.is in
    let beside = at-map value pivot k c.index-pivot-place.result in_pivot c.index-pivot-place.is in
    let answer = c.step_at-answer.ensures ∙ ap (λ x. step_with value L step x (value c.index-pivot-place.result)) (sym entry) ∙ ap (λ x. step_with value L step (at (map value row) k) x) (sym beside) in
    let best = c.smaller_stop-best.ensures
    ∙ ap (λ (r : Result Fraction Wide). smaller_stop c.label_of.result r (as_stop c.loop-i.best)) answer
    ∙ ap (λ (v : ℕ). smaller_stop v (step_with value L step (at (map value row) k) (at (map value pivot) k)) (as_stop c.loop-i.best)) c.label_of.ensures in
    ap (λ (s : Stop). least_stop steps labels s (drop (c.loop-i.i + 1) places)) best ∙ stop_more steps labels (as_stop c.loop-i.best) (as_stop c.args.found) places c.loop-i.i low c.loop-i.invariant

pub returns : goal.returns
returns g c =
    let value = g.N.Exact.fraction in
    let steps = steps_with value (unsigned_abs g.N.Exact.LIMIT) c.args.step (map value c.args.row.now) (map value c.args.pivot.now) in
    ap (λ (s : Stop). s.wide) (stop_end steps (with_right c.args.columns c.args.labels.now) (as_stop c.loop-i.best) (as_stop c.args.found) c.args.places.now c.loop-i.i (omega (arith, c.loop-i-test.false)) c.loop-i.invariant)
