use Rattle.std.proofs.Common.{◌≡◌, ◌-◌, ℕ, ◌∙◌, sym, ap, arith, unsigned_abs}
use Rattle.std.specs.Prelude.{Ok, Bool, Option}
use Rattle.std.specs.Option.{option_map}
use Rattle.simplex_run.specs.Table.{Table as TableOf}
use Rattle.simplex_run.specs.Ending.{no_unit_left, unbounded, wide_at}
use Rattle.simplex_run.specs.Run.{run_from, direction}
use Rattle.simplex_run.specs.Run.{pivoted, moved, unlimited}
use Rattle.fraction_tableau.specs.declared.columns.Entering.{Entering}
use Rattle.fraction_tableau.specs.Labels.{as_column}
use Rattle.fraction_tableau.specs.Tables.{as_table, pivot_answer}
use Rattle.simplex.proofs.RunSteps.{run_ends, run_is_out, run_moves, run_is_unbounded, run_misfits, spent_one, spent_none}
use Rattle.simplex.proofs.run.run.Goals as goal

pub returns-clause-run : goal.returns-clause-run
returns-clause-run g c n m =
    sym (run_ends (unsigned_abs g.N.Exact.LIMIT) n m _ _ _ (sym c.entering.ensures.column ∙ ap (λ (e : Option Entering). option_map as_column e) c.in_default.is)) ∙ c.loop-column.invariant.rest n m

pub returns-then-not-spend-clause-run : goal.returns-then-not-spend-clause-run
returns-then-not-spend-clause-run g c n m =
    let s = spent_none c.spend.result c.loop-column.budget.spent c.loop-column.budget.limit c.spend.new.self.spent c.spend.ensures.answer c.spend.ensures.spent c.if-not-spend.true in
    let enters = sym c.entering.ensures.column ∙ ap (λ (e : Option Entering). option_map as_column e) c.in-Some.is in
    ap no_unit_left s.1 ∙ sym (run_is_out (unsigned_abs g.N.Exact.LIMIT) n m (c.loop-column.budget.limit - c.loop-column.budget.spent) _ _ _ enters (omega (arith, s.0))) ∙ c.loop-column.invariant.rest n m

pub returns-in-Ok-false-clause-run : goal.returns-in-Ok-false-clause-run
returns-in-Ok-false-clause-run g c n m =
    let s = spent_one c.spend.result c.loop-column.budget.spent c.loop-column.budget.limit c.spend.new.self.spent c.spend.ensures.answer c.spend.ensures.spent c.if-not-spend.false in
    let table = as_table g.N.Exact.fraction in
    let enters = sym c.entering.ensures.column ∙ ap (λ (e : Option Entering). option_map as_column e) c.in-Some.is in
    let turned : pivoted (unsigned_abs g.N.Exact.LIMIT) c.in-Some.column.place (table c.loop-column.table) ≡ unlimited =
    sym c.in-Ok-false.ensures.pivoted ∙ ap (λ (b : Bool). pivot_answer (Ok b) (table c.pivot.new.self)) c.in-Ok-false.field-0-test in
    let kept = c.in-Ok-false.ensures.stays (ap Ok c.in-Ok-false.field-0-test) in
    ap (λ (t : TableOf). unbounded (direction n (as_column c.in-Some.column) t) c.spend.new.self.spent) kept
    ∙ ap (λ (k : ℕ). unbounded (direction n (as_column c.in-Some.column) (table c.loop-column.table)) k) s.1
    ∙ sym (run_is_unbounded (unsigned_abs g.N.Exact.LIMIT) n m (c.loop-column.budget.limit - c.loop-column.budget.spent) _ _ _ enters turned (omega (arith, s.0)))
    ∙ c.loop-column.invariant.rest n m

pub returns-in-Err-clause-run : goal.returns-in-Err-clause-run
returns-in-Err-clause-run g c n m =
    let s = spent_one c.spend.result c.loop-column.budget.spent c.loop-column.budget.limit c.spend.new.self.spent c.spend.ensures.answer c.spend.ensures.spent c.if-not-spend.false in
    let enters = sym c.entering.ensures.column ∙ ap (λ (e : Option Entering). option_map as_column e) c.in-Some.is in
    ap (λ (k : ℕ). wide_at k c.in-Err.wide) s.1
    ∙ sym (run_misfits (unsigned_abs g.N.Exact.LIMIT) n m (c.loop-column.budget.limit - c.loop-column.budget.spent) _ _ _ _ enters (sym c.in-Err.ensures.pivoted) (omega (arith, s.0)))
    ∙ c.loop-column.invariant.rest n m

pub loop-column-preserved : goal.loop-column-preserved
loop-column-preserved g c =
    let s = spent_one c.spend.result c.loop-column.budget.spent c.loop-column.budget.limit c.spend.new.self.spent c.spend.ensures.answer c.spend.ensures.spent c.if-not-spend.false in
    let limit = unsigned_abs g.N.Exact.LIMIT in
    let table = as_table g.N.Exact.fraction in
    let enters = sym c.entering.ensures.column ∙ ap (λ (e : Option Entering). option_map as_column e) c.in-Some.is in
    let turned : pivoted limit c.in-Some.column.place (table c.loop-column.table) ≡ moved (table c.pivot.new.self) =
    sym c.in-Ok-true.ensures.pivoted ∙ ap (λ (b : Bool). pivot_answer (Ok b) (table c.pivot.new.self)) c.in-Ok-true.field-0-test in
    let left : c.spend.new.self.limit - c.spend.new.self.spent ≡ c.loop-column.budget.limit - c.loop-column.budget.spent - 1 = omega (arith, s.1, c.spend.ensures.limit) in
    record {
      limit = c.spend.ensures.limit ∙ c.loop-column.invariant.limit;
      shape = record {
        columns = c.pivot.ensures.shape.columns ∙ c.loop-column.invariant.shape.columns;
        rows = c.pivot.ensures.shape.rows ∙ c.loop-column.invariant.shape.rows;
        spare = c.pivot.ensures.shape.spare ∙ c.loop-column.invariant.shape.spare;
        width = c.pivot.ensures.shape.width ∙ c.loop-column.invariant.shape.width;
      };
      rest = λ n m.
          ap (λ (k : ℕ). run_from limit n m k c.spend.new.self.spent (table c.pivot.new.self)) left
          ∙ ap (λ (k : ℕ). run_from limit n m (c.loop-column.budget.limit - c.loop-column.budget.spent - 1) k (table c.pivot.new.self)) s.1
          ∙ sym (run_moves limit n m (c.loop-column.budget.limit - c.loop-column.budget.spent) _ _ _ _ enters turned (omega (arith, s.0)))
          ∙ c.loop-column.invariant.rest n m;
    }
