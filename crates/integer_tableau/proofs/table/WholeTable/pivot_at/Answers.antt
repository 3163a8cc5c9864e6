use Rattle.std.proofs.Common.{◌≡◌, ◌∙◌, ◌+◌, ap, sym, subst, arith, rules, length, ℕ}
use Rattle.run_equivalence.specs.WholePivoting.{cut}
use Rattle.integer_tableau.specs.Rows.{IsPivot, IsPivoted, row_in, row_at}
use Rattle.integer_tableau.specs.Stored.{AreKept, rows_in}
use Rattle.integer_tableau.specs.Tables.{table_of, width_of}
use Rattle.integer_tableau.specs.declared.objective.Objective.{Objective}
use Rattle.integer_tableau.proofs.Pivoting.{pivoted_steps, pivoted_table}
use Rattle.integer_tableau.proofs.Standing.{rows_many}
use Rattle.integer_tableau.proofs.table.WholeTable.pivot_at.Goals as goal

pub pivot-fits-requires-clause-step : goal.pivot-fits-requires-clause-step
pivot-fits-requires-clause-step c =
    let t = c.args.self.now in
    let width : c.len-width.result + 1 ≡ width_of t = omega (arith, c.len-width.ensures, t.labels.ok) in
    record {
      limit = c.requires.limit;
      pivot = subst (λ (w : ℕ). IsPivot w c.args.c c.args.r (rows_in t.rows)) (sym width) c.requires.pivot;
      places = search rules;
      kept = subst (λ (w : ℕ). AreKept c.args.limit w t.rows t.objective) (sym width) c.requires.within;
    }

pub exchange-requires-clause-row : goal.exchange-requires-clause-row
exchange-requires-clause-row c =
    let t = c.args.self.now in
    omega (arith, c.requires.pivot.row, t.count, t.basics.ok, rows_many t.rows)

pub returns-then-fits-clause-table : goal.returns-then-fits-clause-table
returns-then-fits-clause-table c done =
    let t = c.args.self.now in
    let r = c.args.r in
    let old = rows_in t.rows in
    let new = c.pivot-fits.new.self in
    let last = c.pivot-fits.new.objective.numbers.items in
    let same : length t.basics.items ≡ length old = omega (arith, t.count, t.basics.ok, rows_many t.rows) in
    let width : c.len-width.result + 1 ≡ width_of t = omega (arith, c.len-width.ensures, t.labels.ok) in
    let pivoted = subst (λ (w : ℕ). IsPivoted c.args.limit w c.args.c r (cut (row_in w (row_at old r))) old t.objective.numbers.items (rows_in new) last) width (c.pivot-fits.ensures.pivoted c.if-fits.true) in
    let rows = ap rows_in c.exchange.ensures.rows in
    let objective = ap (λ (o : Objective). o.numbers.items) c.exchange.ensures.objective in
    (λ i. table_of (c.exchange.ensures.labels i) (c.exchange.ensures.basics i) (rows i) (objective i))
    ∙ pivoted_table c.args.limit t.labels.items t.basics.items old (rows_in new) t.objective.numbers.items last c.args.c r same c.requires.pivot.row pivoted

pub returns-then-fits-clause-fits : goal.returns-then-fits-clause-fits
returns-then-fits-clause-fits c done =
    let t = c.args.self.now in
    let r = c.args.r in
    let old = rows_in t.rows in
    let new = c.pivot-fits.new.self in
    let last = c.pivot-fits.new.objective.numbers.items in
    let same : length t.basics.items ≡ length old = omega (arith, t.count, t.basics.ok, rows_many t.rows) in
    let width : c.len-width.result + 1 ≡ width_of t = omega (arith, c.len-width.ensures, t.labels.ok) in
    let pivoted = subst (λ (w : ℕ). IsPivoted c.args.limit w c.args.c r (cut (row_in w (row_at old r))) old t.objective.numbers.items (rows_in new) last) width (c.pivot-fits.ensures.pivoted c.if-fits.true) in
    pivoted_steps c.args.limit t.labels.items t.basics.items old (rows_in new) t.objective.numbers.items last c.args.c r same c.requires.pivot.row pivoted
