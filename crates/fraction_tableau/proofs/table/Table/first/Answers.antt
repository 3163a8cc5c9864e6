use Rattle.std.proofs.Common.{◌≡◌, ◌+◌, [], ◌∙◌, sym, ap, arith, length, take, map, List, ℕ}
use Rattle.std.proofs.lemmas.List.{length-map}
use Rattle.exact_num.specs.Fraction.{negated}
use Rattle.simplex_run.specs.Table.{first_table}
use Rattle.simplex_run.specs.Places.{numbers}
use Rattle.fraction_tableau.specs.Candidates.{beside_basics}
use Rattle.fraction_tableau.specs.Tables.{lists_of, objective_of}
use Rattle.fraction_tableau.specs.Lists.{front}
use Rattle.fraction_tableau.proofs.Filling.{slice_written}
use Rattle.fraction_tableau.proofs.Starts.{rows_given, fronts_long, none_long, first_objective, table_with}
use Rattle.fraction_tableau.proofs.table.Table.first.Goals as goal

pub returns-clause-table : goal.returns-clause-table
unfolding first_table
returns-clause-table g c =
    let value = g.N.Exact.fraction in
    let t = c.args.self.now in
    let n = length t.labels.items in
    let lists = lists_of value t in
    let objective = objective_of value t in
    let costs = take n objective in
    let as_many : length lists ≡ length t.rows.rows = length-map t.rows.rows (front value (n + 1)) in
    let slacks : t.basics.items ≡ numbers (n + 0) (length lists) = c.requires.basics ∙ ap (λ k. numbers n k) (sym as_many) ∙ ap (λ k. numbers k (length lists)) (omega arith) in
    let basics : length t.basics.items ≡ length lists = omega (arith, as_many, t.count, t.basics.ok) in
    let count : n + length t.basics.items ≡ n + length lists = ap (λ k. n + k) basics in
    let long = fronts_long value n t.rows.width t.rows.rows (omega (arith, t.columns, t.width, t.labels.ok)) c.requires.widths in
    let rows = ap (λ (bs : List ℕ). beside_basics bs lists) slacks ∙ sym (rows_given n costs [] lists (none_long n) long) in
    let was = ap length c.as_mut_slice.ensures.value in
    let written = slice_written c.turn_signs.new.numbers t.objective.items _ (sym c.as_mut_slice.ensures.len ∙ was) (omega (arith, c.turn_signs.auto.numbers, was)) in
    let turned = ap (map value) written ∙ c.turn_signs.ensures ∙ ap (λ (xs : List g.row.N.Denot). map negated (map value xs)) c.as_mut_slice.ensures.value ∙ first_objective objective costs c.requires.objective in
    λ i. table_with (count i) (c.requires.labels i) (rows i) (turned i)
