use Rattle.std.proofs.Common.{◌≡◌, ◌<◌, ◌+◌, ◌-◌, ◌∙◌, refl, sym, ap, arith, rules, length, map, drop, Bool}
use Rattle.std.specs.Prelude.{Option, slice_index_or}
use Rattle.std.specs.Option.{option_map}
use Rattle.std.proofs.lemmas.List.{length-map}
use mir.Val.{SFits}
use mir.Syntax.{w8}
use Rattle.exact_num.specs.Tests.{is_below_zero}
use Rattle.simplex_run.specs.Places.{at}
use Rattle.simplex_run.specs.Choice.{Column, least_below}
use Rattle.fraction_tableau.specs.Labels.{as_column, with_column}
use Rattle.fraction_tableau.proofs.EntrySteps.{at-map}
use Rattle.fraction_tableau.proofs.Signs.{sign_below}
use Rattle.fraction_tableau.proofs.Choosing.{column, column_more, no_column, inside_of}
use Rattle.fraction_tableau.proofs.columns.least_column.Goals as goal

pub loop-place-init : goal.loop-place-init
loop-place-init g c = no_column c.args.labels.now (map g.N.Exact.fraction c.args.entries.now) _ (omega arith)

pub returns-clause-column : goal.returns-clause-column
returns-clause-column g c =
    let done : c.loop-place.place ≡ 0 = omega arith in
    rw done at c.loop-place.invariant

pub returns-clause-inside : goal.returns-clause-inside
returns-clause-inside g c = inside_of _ c.args.labels.now (map g.N.Exact.fraction c.args.entries.now) (returns-clause-column g c)

pub loop-place-preserved : goal.loop-place-preserved
loop-place-preserved g c =
    let value = g.N.Exact.fraction in
    let labels = c.args.labels.now in
    let entries = map value c.args.entries.now in
    let k = c.loop-place.place - 1 in
    let next : c.loop-place.place ≡ k + 1 = omega (arith, c.loop-place-test.true) in
    let low : k < length labels = omega arith in
    let in_entries : k < length c.args.entries.now = omega (arith, low, c.requires) in
    let f : SFits w8 c.sign.result = search rules in
    let entry = at-map value c.args.entries.now k c.index-entries-place.result in_entries c.index-entries-place.is in
    let below = sign_below _ _ _ c.sign.ensures f refl in
    let rest = c.loop-place.invariant ∙ (λ i. least_below (next i) (drop (next i) labels) (drop (next i) entries)) in
    c.with_column-best.ensures
    ∙ ap (λ (b : Bool). with_column b (column k (slice_index_or labels k 0)) (option_map as_column c.loop-place.best)) (sym below ∙ ap is_below_zero (sym entry))
    ∙ ap (λ (l : Option Column). with_column (is_below_zero (at entries k)) (column k (slice_index_or labels k 0)) l) rest
    ∙ sym (column_more labels entries k low (omega (arith, in_entries, length-map c.args.entries.now value)))
