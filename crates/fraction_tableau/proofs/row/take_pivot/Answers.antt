use Rattle.std.proofs.Common.{◌∙◌, sym, ap, map, unsigned_abs, slice_set, pos, List}
use Rattle.std.proofs.lemmas.List.{map-set}
use Rattle.exact_num.specs.Fits.{div_of}
use Rattle.exact_num.specs.Fraction.{Fraction, whole}
use Rattle.simplex_run.specs.Places.{at}
use Rattle.simplex_run.specs.Table.{with_right}
use Rattle.simplex_run.specs.Pivot.{divided, steps_of, told}
use Rattle.fraction_tableau.proofs.EntrySteps.{at-map}
use Rattle.fraction_tableau.proofs.row.take_pivot.Goals as goal

pub returns-clause-row : goal.returns-clause-row
unfolding divided
returns-clause-row g c =
    let value = g.N.Exact.fraction in
    let L = unsigned_abs g.N.Exact.LIMIT in
    let row = c.args.row.now in
    let k = c.args.c in
    let labels = with_right c.args.columns c.args.labels.now in
    let divisor = at-map value row k c.index-row-c.result c.requires.column c.index-row-c.is in
    let news = map-set value row k c.one.result ∙ ap (slice_set (map value row) k) c.one.ensures in
    c.divide_row.ensures
    ∙ ap (λ (xs : List Fraction). told (steps_of (λ j. div_of L (at xs j) (value c.index-row-c.result)) 0 labels)) news
    ∙ ap (λ (d : Fraction). told (steps_of (λ j. div_of L (at (slice_set (map value row) k (whole (pos 1))) j) d) 0 labels)) (sym divisor)
