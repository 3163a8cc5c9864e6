use Rattle.std.proofs.Common.{◌<◌, ◌+◌, ◌∙◌, sym, ap, arith, rules, length, map, drop, unsigned_abs, slice_index_or, List, ℕ}
use Rattle.std.proofs.lemmas.List.{map-set, take_rest}
use Rattle.exact_num.specs.Fits.{meaning}
use Rattle.exact_num.proofs.Units.{limit_at_least_one}
use Rattle.simplex_run.specs.Places.{at}
use Rattle.simplex_run.specs.Table.{with_right}
use Rattle.simplex_run.specs.Pivot.{Stop, less_product, stop_of, told}
use Rattle.simplex_run.proofs.Columns.{right_count}
use Rattle.fraction_tableau.specs.Labels.{least_stop, steps_with}
use Rattle.fraction_tableau.specs.declared.stops.Step.TheVariants.{Less}
use Rattle.fraction_tableau.proofs.EntrySteps.{at-map}
use Rattle.fraction_tableau.proofs.Nonzero.{place_below, places_below}
use Rattle.fraction_tableau.proofs.Sweeps.{places_more, places_stop, places_end}
use Rattle.fraction_tableau.proofs.RowSteps.{all_cleared, told_stop}
use Rattle.fraction_tableau.proofs.row.eliminate_row.Goals as goal

pub bounds-row-place : goal.bounds-row-place
bounds-row-place g c = place_below g.N.Exact.fraction c.args.pivot.now c.args.places.now _ c.requires.places (omega (arith, c.requires.widths, c.loop-i.auto.row)) c.loop-i.i (omega (arith, c.loop-i-test.true))

pub offset_bounds-row-place : goal.offset_bounds-row-place
offset_bounds-row-place g c =
    let inside : slice_index_or c.args.places.now c.loop-i.i 0 < length c.loop-i.row = place_below g.N.Exact.fraction c.args.pivot.now c.args.places.now (length c.loop-i.row) c.requires.places (omega (arith, c.requires.widths, c.loop-i.auto.row)) c.loop-i.i (omega (arith, c.loop-i-test.true)) in
    search rules

pub bounds-pivot-place : goal.bounds-pivot-place
bounds-pivot-place g c = place_below g.N.Exact.fraction c.args.pivot.now c.args.places.now _ c.requires.places (λ i. length c.args.pivot.now) c.loop-i.i (omega (arith, c.loop-i-test.true))

pub offset_bounds-pivot-place : goal.offset_bounds-pivot-place
offset_bounds-pivot-place g c = omega (arith, place_below g.N.Exact.fraction c.args.pivot.now c.args.places.now _ c.requires.places (λ i. length c.args.pivot.now) c.loop-i.i (omega (arith, c.loop-i-test.true)))

pub bounds-row-place-in-Ok : goal.bounds-row-place-in-Ok
bounds-row-place-in-Ok g c = place_below g.N.Exact.fraction c.args.pivot.now c.args.places.now _ c.requires.places (omega (arith, c.requires.widths, c.loop-i.auto.row)) c.loop-i.i (omega (arith, c.loop-i-test.true))

pub offset_bounds-row-place-in-Ok : goal.offset_bounds-row-place-in-Ok
offset_bounds-row-place-in-Ok g c =
    let inside : slice_index_or c.args.places.now c.loop-i.i 0 < length c.loop-i.row = place_below g.N.Exact.fraction c.args.pivot.now c.args.places.now (length c.loop-i.row) c.requires.places (omega (arith, c.requires.widths, c.loop-i.auto.row)) c.loop-i.i (omega (arith, c.loop-i-test.true)) in
    search rules

pub label_of-label-requires : goal.label_of-label-requires
label_of-label-requires g c = omega (arith, place_below g.N.Exact.fraction c.args.pivot.now c.args.places.now _ c.requires.places c.requires.widths.1 c.loop-i.i (omega (arith, c.loop-i-test.true)))

pub least_stop-requires-clause-places : goal.least_stop-requires-clause-places
least_stop-requires-clause-places g c = places_below g.N.Exact.fraction c.args.pivot.now c.args.places.now _ c.requires.places c.requires.widths.1 (c.loop-i.i + 1)

pub returns-in-Err : goal.returns-in-Err
returns-in-Err g c =
    let laws = g.met.N.Exact in
    let value = g.N.Exact.fraction in
    let L = unsigned_abs g.N.Exact.LIMIT in
    let f = value c.args.factor in
    let labels = with_right c.args.columns c.args.labels.now in
    let count = right_count c.args.columns c.args.labels.now in
    let pivot = map value c.args.pivot.now in
    let row = c.loop-i.row in
    let k = slice_index_or c.args.places.now c.loop-i.i 0 in
    let in_pivot : k < length c.args.pivot.now = place_below value c.args.pivot.now c.args.places.now _ c.requires.places (λ i. length c.args.pivot.now) c.loop-i.i (omega (arith, c.loop-i-test.true)) in
    let inside : k < length row = omega (arith, in_pivot, c.requires.widths, c.loop-i.auto.row) in
    let entry = at-map value row k c.index-row-place.result inside c.index-row-place.is in
    let beside = at-map value c.args.pivot.now k c.index-pivot-place.result in_pivot c.index-pivot-place.is in
    let stops = (λ i. less_product L f (entry i) (beside i)) ∙ sym c.less_product.ensures ∙ ap (meaning value) c.in-Err.is in
    let all = all_cleared value L (limit_at_least_one g.N.Exact.LIMIT laws.limit_positive) (λ x. record { lowest = laws.lowest x; above = laws.numerator_fits x; below = laws.denominator_fits x }) c.args.row.now c.args.pivot.now labels c.args.places.now c.args.factor (omega (arith, c.requires.widths.0, count)) (omega (arith, c.requires.widths.1, count)) c.requires.places in
    let stop : List ℕ → Stop = λ ks. least_stop (steps_with value L (Less c.args.factor) (map value row) pivot) labels (stop_of c.label_of-label.result c.in-Err.wide) ks in
    told_stop _ (stop (drop (c.loop-i.i + 1) c.args.places.now)) _ (c.least_stop.ensures ∙ ap (λ (ks : List ℕ). (stop ks).wide) (take_rest c.args.places.now (c.loop-i.i + 1))) (places_stop (λ k x. less_product L f x (at pivot k)) labels (map value c.args.row.now) (map value row) c.args.places.now c.loop-i.i c.label_of-label.result c.in-Err.wide (omega (arith, c.loop-i-test.true)) stops c.label_of-label.ensures c.loop-i.invariant ∙ all)

pub loop-i-preserved : goal.loop-i-preserved
loop-i-preserved g c =
    let value = g.N.Exact.fraction in
    let L = unsigned_abs g.N.Exact.LIMIT in
    let f = value c.args.factor in
    let pivot = map value c.args.pivot.now in
    let row = c.loop-i.row in
    let k = slice_index_or c.args.places.now c.loop-i.i 0 in
    let in_pivot : k < length c.args.pivot.now = place_below value c.args.pivot.now c.args.places.now _ c.requires.places (λ i. length c.args.pivot.now) c.loop-i.i (omega (arith, c.loop-i-test.true)) in
    let inside : k < length row = omega (arith, in_pivot, c.requires.widths, c.loop-i.auto.row) in
    let entry = at-map value row k c.index-row-place.result inside c.index-row-place.is in
    let beside = at-map value c.args.pivot.now k c.index-pivot-place.result in_pivot c.index-pivot-place.is in
    let fits = (λ i. less_product L f (entry i) (beside i)) ∙ sym c.less_product.ensures ∙ ap (meaning value) c.in-Ok.is in
    places_more (λ k x. less_product L f x (at pivot k)) (with_right c.args.columns c.args.labels.now) (map value c.args.row.now) (map value row) _ c.args.places.now c.loop-i.i (value c.in-Ok.entry) (omega (arith, c.loop-i-test.true)) fits (map-set value row k c.in-Ok.entry) c.loop-i.invariant

pub returns : goal.returns
returns g c =
    let laws = g.met.N.Exact in
    let value = g.N.Exact.fraction in
    let L = unsigned_abs g.N.Exact.LIMIT in
    let labels = with_right c.args.columns c.args.labels.now in
    let count = right_count c.args.columns c.args.labels.now in
    let all = all_cleared value L (limit_at_least_one g.N.Exact.LIMIT laws.limit_positive) (λ x. record { lowest = laws.lowest x; above = laws.numerator_fits x; below = laws.denominator_fits x }) c.args.row.now c.args.pivot.now labels c.args.places.now c.args.factor (omega (arith, c.requires.widths.0, count)) (omega (arith, c.requires.widths.1, count)) c.requires.places in
    ap told (places_end (λ k x. less_product L (value c.args.factor) x (at (map value c.args.pivot.now) k)) labels (map value c.args.row.now) (map value c.loop-i.row) c.args.places.now c.loop-i.i (omega (arith, c.loop-i-test.false)) c.loop-i.invariant ∙ all)
