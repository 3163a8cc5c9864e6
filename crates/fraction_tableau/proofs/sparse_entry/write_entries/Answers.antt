use Rattle.std.proofs.Common.{◌<◌, ◌≤◌, ◌+◌, ◌∷◌, ◌∙◌, sym, ap, arith, length, map, drop}
use Rattle.std.proofs.lemmas.List.{length-set, map-set, drop_more, drop_all}
use Rattle.fraction_tableau.specs.SparseEntries.{written}
use Rattle.fraction_tableau.proofs.Written.{writes_on, all_written}
use Rattle.fraction_tableau.proofs.sparse_entry.write_entries.Goals as goal

pub loop-entry-preserved : goal.loop-entry-preserved
loop-entry-preserved g c =
    let value = g.N.Exact.fraction in
    let es = c.args.entries.now in
    let i = c.loop-entry.entry-index in
    let e = c.entry-item.result in
    let row = c.loop-entry.row in
    let low : i < length es = omega (arith, c.loop-entry-test.true, c.loop-entry.auto.entry-index-end) in
    let left = drop_more es i e low ∙ ap (λ x. x ∷ drop (i + 1) es) (sym c.entry-item.is) in
    record {
      rest =
          ap (written value (drop (i + 1) es)) (map-set value row e.place e.number)
          ∙ writes_on value e (drop i es) (drop (i + 1) es) (map value row) _ left c.loop-entry.invariant.rest;
      width = length-set row e.place e.number ∙ c.loop-entry.invariant.width;
    }

pub returns : goal.returns
returns g c =
    let es = c.args.entries.now in
    let i = c.loop-entry.entry-index in
    let high : length es ≤ i = omega (arith, c.loop-entry-test.false, c.loop-entry.auto.entry-index-end) in
    all_written g.N.Exact.fraction (drop i es) (map g.N.Exact.fraction c.loop-entry.row) _ (drop_all i es high) c.loop-entry.invariant.rest
