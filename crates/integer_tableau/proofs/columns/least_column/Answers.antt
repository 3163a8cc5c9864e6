use Rattle.std.proofs.Common.{◌≡◌, ◌<◌, ◌+◌, ◌-◌, ◌∙◌, sym, ap, arith, rules, length, drop, slice_index_or, pos, FitsSigned}
use mir.Syntax.{w128}
use Rattle.std.specs.Prelude.{Option, int_lt}
use Rattle.std.proofs.lemmas.Int.{to_z-of_z}
use Rattle.simplex_run.specs.Choice.{Column}
use Rattle.run_equivalence.specs.WholePivoting.{least_column}
use Rattle.fraction_tableau.specs.Labels.{with_column}
use Rattle.fraction_tableau.proofs.Choosing.{column}
use Rattle.integer_tableau.proofs.Choosing.{column_more, no_column, inside_of}
use Rattle.integer_tableau.proofs.columns.least_column.Goals as goal

pub loop-place-init : goal.loop-place-init
loop-place-init c = no_column c.args.labels.now c.args.numbers.now _ (omega arith)

pub loop-place-preserved : goal.loop-place-preserved
loop-place-preserved c =
    let labels = c.args.labels.now in
    let numbers = c.args.numbers.now in
    let k = c.loop-place.place - 1 in
    let next : c.loop-place.place ≡ k + 1 = omega (arith, c.loop-place-test.true) in
    let low : k < length labels = omega arith in
    let in_numbers : k < length numbers = omega (arith, low, c.requires) in
    let z = slice_index_or numbers k (pos 0) in
    let fz : FitsSigned w128 z = search rules in
    let step = simp to_z-of_z at c.with_column-best.ensures in
    let rest = c.loop-place.invariant ∙ (λ i. least_column (next i) (drop (next i) labels) (drop (next i) numbers)) in
    step ∙ ap (λ (l : Option Column). with_column (int_lt z (pos 0)) (column k (slice_index_or labels k 0)) l) rest ∙ sym (column_more labels numbers k low in_numbers)

pub returns-clause-column : goal.returns-clause-column
returns-clause-column c =
    let done : c.loop-place.place ≡ 0 = omega arith in
    rw done at c.loop-place.invariant

pub returns-clause-inside : goal.returns-clause-inside
returns-clause-inside c = inside_of _ c.args.labels.now c.args.numbers.now (returns-clause-column c)
