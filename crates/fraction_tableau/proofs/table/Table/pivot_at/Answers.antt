use Rattle.std.proofs.Common.{◌≡◌, ◌+◌, ◌∙◌, sym, ap, arith, length, set, unsigned_abs}
use Rattle.std.specs.Prelude.{Ok, get_or, slice_index_or}
use Rattle.std.proofs.lemmas.List.{length-map, length-set}
use Rattle.exact_num.specs.Fits.{after, written_back}
use Rattle.simplex_run.specs.Table.{with_right}
use Rattle.fraction_tableau.specs.Candidates.{apart}
use Rattle.fraction_tableau.specs.Lists.{front, lists_after_pivot}
use Rattle.fraction_tableau.specs.Tables.{columns_of, lists_of, objective_of}
use Rattle.fraction_tableau.proofs.Beside.{pivoted_apart, written_apart}
use Rattle.fraction_tableau.proofs.table.Table.pivot_at.Goals as goal

pub returns-clause-table : goal.returns-clause-table
returns-clause-table g c =
    let value = g.N.Exact.fraction in
    let L = unsigned_abs g.N.Exact.LIMIT in
    let t = c.args.self.now in
    let u = c.exchange.new.self in
    let v = c.pivot_rows.new.self in
    let l = slice_index_or t.basics.items c.args.r 0 in
    let labels = set t.labels.items c.args.c l in
    let basics = set t.basics.items c.args.r (get_or t.labels.items c.args.c 0) in
    let same : length t.basics.items ≡ length (lists_of value t) = omega (arith, length-map t.rows.rows (front value (length t.labels.items + 1)), t.count, t.basics.ok) in
    let columns : columns_of u ≡ columns_of t = (λ i. length (c.exchange.ensures.labels i) + length (c.exchange.ensures.basics i)) ∙ (λ i. length-set t.labels.items c.args.c l i + length-set t.basics.items c.args.r (get_or t.labels.items c.args.c 0) i) in
    let turned = c.pivot_rows.ensures.turned ∙ (λ i. lists_after_pivot L c.args.c (with_right (columns i) (c.exchange.ensures.labels i)) c.args.r (c.exchange.ensures.lists i) (c.exchange.ensures.objective i)) in
    let all_labels = c.pivot_rows.ensures.labels ∙ c.exchange.ensures.labels in
    let all_basics = c.pivot_rows.ensures.basics ∙ c.exchange.ensures.basics in
    let all_columns : columns_of v ≡ columns_of t = (λ i. length (c.pivot_rows.ensures.labels i) + length (c.pivot_rows.ensures.basics i)) ∙ columns in
    (λ i. written_back c.pivot_rows.result (apart (all_columns i) (all_labels i) (all_basics i) (lists_of value v) (objective_of value v)))
    ∙ written_apart (columns_of t) labels basics c.pivot_rows.result (lists_of value v) (objective_of value v)
    ∙ ap (λ q. after q (λ o. Ok (apart (columns_of t) labels basics o.0 o.1))) turned
    ∙ sym (pivoted_apart L c.args.c c.args.r l (columns_of t) t.labels.items t.basics.items (lists_of value t) (objective_of value t) same (λ i. l))
