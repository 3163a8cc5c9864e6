use Rattle.std.proofs.Common.{◌≡◌, ◌∙◌, sym, ap, arith, length, map, unsigned_abs, slice_set, List}
use Rattle.std.proofs.lemmas.List.{map-set, length-set}
use Rattle.exact_num.specs.Fraction.{Fraction}
use Rattle.exact_num.proofs.Units.{limit_at_least_one}
use Rattle.simplex_run.specs.Places.{at, fraction_zero}
use Rattle.simplex_run.specs.Table.{with_right}
use Rattle.simplex_run.specs.Pivot.{eliminated, less_product, steps_of, told}
use Rattle.simplex_run.proofs.Columns.{right_count}
use Rattle.fraction_tableau.proofs.EntrySteps.{at-map}
use Rattle.fraction_tableau.proofs.RowSteps.{none_cleared}
use Rattle.fraction_tableau.proofs.row.eliminate_column.Goals as goal

pub returns-then-is_zero : goal.returns-then-is_zero
unfolding eliminated
returns-then-is_zero g c =
    let laws = g.met.N.Exact in
    let value = g.N.Exact.fraction in
    let L = unsigned_abs g.N.Exact.LIMIT in
    let row = c.args.row.now in
    let k = c.args.c in
    let pivot = map value c.args.pivot.now in
    let labels = with_right c.args.columns c.args.labels.now in
    let factor = at-map value row k c.index-row-c.result c.requires.column c.index-row-c.is in
    let news = map-set value row k c.zero.result ∙ ap (slice_set (map value row) k) c.zero.ensures in
    let wide : length (slice_set row k c.zero.result) ≡ length labels = omega (arith, length-set row k c.zero.result, c.requires.widths.0, right_count c.args.columns c.args.labels.now) in
    sym (
    ap (λ (xs : List Fraction). told (steps_of (λ j. less_product L (at (map value row) k) (at xs j) (at pivot j)) 0 labels)) (sym news)
    ∙ ap (λ (f : Fraction). told (steps_of (λ j. less_product L f (at (map value (slice_set row k c.zero.result)) j) (at pivot j)) 0 labels)) factor
    ∙ none_cleared value L (limit_at_least_one g.N.Exact.LIMIT laws.limit_positive) (λ x. record { lowest = laws.lowest x; above = laws.numerator_fits x; below = laws.denominator_fits x }) (slice_set row k c.zero.result) c.args.pivot.now labels c.index-row-c.result wide (sym c.is_zero.ensures ∙ c.if-is_zero.true)
    )

pub returns : goal.returns
unfolding eliminated
returns g c =
    let value = g.N.Exact.fraction in
    let L = unsigned_abs g.N.Exact.LIMIT in
    let row = c.args.row.now in
    let k = c.args.c in
    let pivot = map value c.args.pivot.now in
    let labels = with_right c.args.columns c.args.labels.now in
    let factor = at-map value row k c.index-row-c.result c.requires.column c.index-row-c.is in
    let news = map-set value row k c.zero.result ∙ ap (slice_set (map value row) k) c.zero.ensures in
    c.eliminate_row.ensures
    ∙ ap (λ (xs : List Fraction). told (steps_of (λ j. less_product L (value c.index-row-c.result) (at xs j) (at pivot j)) 0 labels)) news
    ∙ ap (λ (f : Fraction). told (steps_of (λ j. less_product L f (at (slice_set (map value row) k fraction_zero) j) (at pivot j)) 0 labels)) (sym factor)
