use Rattle.std.proofs.Common.{◌≡◌, ◌<◌, ◌≤◌, ◌+◌, [], ◌∷◌, ◌++◌, ◌∙◌, sym, ap, subst, arith, rules, length, map, ℕ, List}
use Rattle.std.proofs.lemmas.List.{length-map, length-append, take_all}
use Rattle.exact_num.specs.Fraction.{negated}
use Rattle.simplex_run.specs.Places.{fraction_zero, numbers, values_at}
use Rattle.simplex_run.proofs.Listed.{listed_count}
use Rattle.fraction_tableau.proofs.Filling.{numbers_last}
use Rattle.fraction_tableau.specs.SparseRows.{lists_of}
use Rattle.fraction_tableau.proofs.Parts.{length-rows, rows_long}
use Rattle.run_equivalence.specs.IntegerRows.{taken_in, table_taken_in, widest}
use Rattle.run_equivalence.specs.WholeRunning.{first_whole_table}
use Rattle.integer_tableau.specs.declared.objective.Objective.{Objective}
use Rattle.integer_tableau.specs.Eliminating.{IsKept}
use Rattle.integer_tableau.specs.Rows.{row_in, integer_rows_in}
use Rattle.integer_tableau.specs.Stored.{AreStored, rows_in}
use Rattle.integer_tableau.specs.Tables.{table_of, width_of}
use Rattle.integer_tableau.proofs.Taken.{taken_more, table_taken, lists_first}
use Rattle.integer_tableau.proofs.Stored.{rows_count}
use Rattle.integer_tableau.proofs.Turned.{row_wider}
use Rattle.integer_tableau.proofs.table.WholeTable.take_in.Goals as goal

pub loop-i-init : goal.loop-i-init
unfolding values_at
loop-i-init g c = search rules

pub loop-i-preserved : goal.loop-i-preserved
loop-i-preserved g c =
    let f = g.N.Exact.fraction in
    let p = c.args.program.now in
    let old = c.loop-i.self in
    let new = c.take_row.new.self in
    let inv = c.loop-i.invariant in
    let i = c.loop-i.i in
    let n = c.variables-columns.result in
    let w = width_of old in
    let told = c.take_row.ensures in
    let h = told.row c.if-not-take_row.false in
    let lists = lists_of f p in
    let wide : width_of new ≡ w = ap (λ (ns : List ℕ). length ns + 1) told.labels in
    let many : length lists ≡ length p.ends.items = length-rows f (length p.costs.items + 1) p.entries.items 0 p.ends.items in
    let low : i < length lists = omega (arith, many, c.loop-i-test.true, c.rows-i-end.ensures) in
    let line = h.line ∙ ap taken_in c.write_row.ensures in
    let count = sym (rows_count new.rows.is_wide.items new.rows.short.rows new.rows.wide.rows) ∙ ap length h.rows ∙ length-append (rows_in old.rows) (h.row ∷ []) in
    let were = rows_count old.rows.is_wide.items old.rows.short.rows old.rows.wide.rows in
    let before = inv.count in
    let fits = inv.room in
    let room = told.room.rows in
    record {
      labels = told.labels ∙ inv.labels;
      columns = ap length told.labels ∙ inv.columns;
      basics = h.basics ∙ ap (λ (bs : List ℕ). bs ++ (n + i) ∷ []) inv.basics ∙ sym (numbers_last n i);
      rows = ap (λ (k : ℕ). integer_rows_in k (rows_in new.rows)) wide ∙ ap (integer_rows_in w) h.rows ∙ taken_more w lists (rows_in old.rows) h.row i low inv.rows line;
      objective = ap (λ (k : ℕ). row_in k new.objective.numbers.items) wide ∙ ap (λ (o : Objective). row_in w o.numbers.items) told.objective ∙ inv.objective;
      stored = λ limit high. subst (λ (k : ℕ). AreStored limit k new.rows) (sym wide) (told.stored limit c.if-not-take_row.false high (inv.stored limit high));
      last = subst (λ (k : ℕ). IsKept widest k new.objective.size (row_in k new.objective.numbers.items)) (sym wide) (subst (λ (o : Objective). IsKept widest w o.size (row_in w o.numbers.items)) (sym told.objective) inv.last);
      count = omega (arith, count, were, before);
      room = omega (arith, fits, room);
      line = omega (arith, inv.line, c.write_row.auto.row);
    }

pub returns-clause-table : goal.returns-clause-table
unfolding first_whole_table
returns-clause-table g c done =
    let f = g.N.Exact.fraction in
    let p = c.args.program.now in
    let n = c.variables-columns.result in
    let costs = map f p.costs.items in
    let self = c.loop-i.self in
    let inv = c.loop-i.invariant in
    let i = c.loop-i.i in
    let lists = lists_of f p in
    let many : length lists ≡ length p.ends.items = length-rows f (length p.costs.items + 1) p.entries.items 0 p.ends.items in
    let high : length p.ends.items ≤ i = omega (arith, c.loop-i-test.false, c.rows-i-end.ensures) in
    let reached : i ≤ length p.ends.items = omega (arith, c.loop-i.auto.i-end, c.rows-i-end.ensures) in
    let all : i ≡ length lists = omega (arith, high, reached, many) in
    let cols : n ≡ length p.costs.items = c.variables-columns.ensures in
    let labels = inv.labels ∙ ap (numbers 0) cols in
    let basics = inv.basics ∙ (λ k. numbers (cols k) (all k)) in
    let rows = inv.rows ∙ take_all i (map taken_in lists) (omega (arith, high, many, length-map lists taken_in)) in
    let slacks = numbers (length p.costs.items) (length lists) in
    let count : length (numbers 0 (length p.costs.items)) + length slacks ≡ length p.costs.items + length lists = (λ k. listed_count (λ j. j) 0 (length p.costs.items) k + listed_count (λ j. j) (length p.costs.items) (length lists) k) in
    let objective = map negated costs ++ fraction_zero ∷ [] in
    let long = rows_long f (length p.costs.items) p.entries.items 0 p.ends.items in
    (λ k. table_of (labels k) (basics k) (rows_in self.rows) self.objective.numbers.items)
    ∙ table_taken (length p.costs.items + length lists) (numbers 0 (length p.costs.items)) slacks lists objective (rows_in self.rows) self.objective.numbers.items count
    (ap (λ (ns : List ℕ). integer_rows_in (length ns + 1) (rows_in self.rows)) (sym labels) ∙ rows)
    (ap (λ (ns : List ℕ). row_in (length ns + 1) self.objective.numbers.items) (sym labels) ∙ inv.objective)
    ∙ ap table_taken_in (lists_first (length p.costs.items) lists costs long)

pub returns-clause-within : goal.returns-clause-within
returns-clause-within g c limit done high =
    let inv = c.loop-i.invariant in
    let w = width_of c.loop-i.self in
    record { rows = inv.stored limit high; objective = record { line = row_wider widest limit w _ high inv.last.line; size = inv.last.size } }
