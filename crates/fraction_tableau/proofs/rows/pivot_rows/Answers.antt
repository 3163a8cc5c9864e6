use Rattle.std.proofs.Common.{◌≡◌, ◌+◌, [], length, map, slice_index_or, unsigned_abs, sym, ◌∙◌, ap, arith, set}
use Rattle.std.specs.Prelude.{Ok}
use Rattle.std.proofs.lemmas.Result.{err_from_is_err_and}
use Rattle.std.proofs.lemmas.List.{map-set}
use Rattle.exact_num.specs.Fits.{after}
use Rattle.simplex_run.specs.Pivot.{divided, eliminated}
use Rattle.lists.proofs.Lists.{refit_is}
use Rattle.simplex_run.specs.Table.{with_right}
use Rattle.fraction_tableau.specs.Lists.{front, lists_after}
use Rattle.fraction_tableau.proofs.ArenaSteps.{at_set_same, at_fronts, turned_is, beside}
use Rattle.fraction_tableau.proofs.rows.pivot_rows.Goals as goal

pub returns-in_err-eliminate_rows-clause-turned : goal.returns-in_err-eliminate_rows-clause-turned
returns-in_err-eliminate_rows-clause-turned g c =
    let p = err_from_is_err_and c.from_residual-in_err-eliminate_rows.result c.from_residual-in_err-eliminate_rows.ensures.1 in
    let w = length c.args.labels.now + 1 in
    let value = front g.N.Exact.fraction w in
    let L = unsigned_abs g.N.Exact.LIMIT in
    let e = c.args.c in
    let labels = with_right c.args.columns c.args.labels.now in
    let r = c.args.r in
    let rows = c.args.rows.now.rows in
    let x = slice_index_or rows r [] in
    let ys = c.take_front.new.row in
    let last = map g.N.Exact.fraction c.args.objective.now in
    let full : length ys ≡ c.args.rows.now.width = omega (arith, c.row_mut.ensures.width) in
    let refitted = refit_is c.args.rows.now.width x ys full in
    let here = at_set_same rows r ys [] c.requires.row in
    let is_divided : divided L e labels (slice_index_or (map value rows) r []) ≡ Ok (value ys) =
    ap (divided L e labels) (at_fronts g.N.Exact.fraction w rows r ∙ ap value (sym c.row_mut.ensures.row)) ∙ sym c.in_ok-take_front.ensures.row in
    let whole = turned_is L e labels r (map value rows) (value ys) last is_divided in
    let from_rows = ap (λ z. lists_after L e labels r (value (slice_index_or (set rows r z) r [])) 0 (map value (set rows r z))) refitted in
    let from_pivot = ap (λ z. lists_after L e labels r (value z) 0 (map value (set rows r ys))) here in
    let from_set = ap (lists_after L e labels r (value ys) 0) (map-set value rows r ys) in
    let stop = c.in_err-eliminate_rows.ensures.rows ∙ from_rows ∙ from_pivot ∙ from_set in
    rw (p.1, p.2) (sym (whole ∙ ap (λ z. after z (λ others. after (eliminated L e labels (value ys) last) (λ l. Ok (others, l)))) (sym stop)))

pub returns-clause-turned : goal.returns-clause-turned
returns-clause-turned g c =
    let w = length c.args.labels.now + 1 in
    let value = front g.N.Exact.fraction w in
    let L = unsigned_abs g.N.Exact.LIMIT in
    let e = c.args.c in
    let labels = with_right c.args.columns c.args.labels.now in
    let r = c.args.r in
    let rows = c.args.rows.now.rows in
    let x = slice_index_or rows r [] in
    let ys = c.take_front.new.row in
    let last = map g.N.Exact.fraction c.args.objective.now in
    let full : length ys ≡ c.args.rows.now.width = omega (arith, c.row_mut.ensures.width) in
    let refitted = refit_is c.args.rows.now.width x ys full in
    let here = at_set_same rows r ys [] c.requires.row in
    let is_divided : divided L e labels (slice_index_or (map value rows) r []) ≡ Ok (value ys) =
    ap (divided L e labels) (at_fronts g.N.Exact.fraction w rows r ∙ ap value (sym c.row_mut.ensures.row)) ∙ sym c.in_ok-take_front.ensures.row in
    let whole = turned_is L e labels r (map value rows) (value ys) last is_divided in
    let from_rows = ap (λ z. lists_after L e labels r (value (slice_index_or (set rows r z) r [])) 0 (map value (set rows r z))) refitted in
    let from_pivot = ap (λ z. lists_after L e labels r (value z) 0 (map value (set rows r ys))) here in
    let from_set = ap (lists_after L e labels r (value ys) 0) (map-set value rows r ys) in
    let goes = c.in_ok-eliminate_rows.ensures.rows ∙ from_rows ∙ from_pivot ∙ from_set in
    let pivot_row = c.row-2.ensures.row ∙ c.in_ok-eliminate_rows.ensures.pivot ∙ ap (λ z. slice_index_or (set rows r z) r []) refitted ∙ here in
    let objective = c.eliminate_column.ensures ∙ ap (λ z. eliminated L e labels (value z) last) pivot_row in
    let news = map value c.eliminate_rows.new.rows.rows in
    beside c.eliminate_column.result news (map g.N.Exact.fraction c.eliminate_column.new.row)
    ∙ ap (λ z. after z (λ l. Ok (news, l))) objective
    ∙ sym (whole ∙ ap (λ z. after z (λ others. after (eliminated L e labels (value ys) last) (λ l. Ok (others, l)))) (sym goes))
