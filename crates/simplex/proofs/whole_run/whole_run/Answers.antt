use Rattle.std.proofs.Common.{◌≡◌, ◌+◌, ◌-◌, ◌<◌, ℕ, ◌∙◌, sym, ap, subst, arith, rules, length}
use Rattle.std.specs.Prelude.{Option, Some}
use Rattle.std.specs.Option.{option_map}
use Rattle.simplex_run.specs.Ending.{no_unit_left, unbounded}
use Rattle.run_equivalence.specs.IntegerRows.{IntegerTable}
use Rattle.run_equivalence.specs.WholeRunning.{whole_direction, whole_run_from}
use Rattle.integer_tableau.specs.declared.pivot_end.PivotEnd.{PivotEnd}
use Rattle.fraction_tableau.specs.declared.columns.Entering.{Entering}
use Rattle.fraction_tableau.specs.Labels.{as_column}
use Rattle.integer_tableau.specs.Stored.{rows_in}
use Rattle.integer_tableau.specs.Tables.{as_whole, IsPivotEnd}
use Rattle.integer_tableau.proofs.Pivoting.{rows_fit_in}
use Rattle.simplex.proofs.RunSteps.{spent_one, spent_none}
use Rattle.simplex.proofs.WholeSteps.{whole_ends, whole_out, whole_moves, whole_unlimited}
use Rattle.simplex.proofs.whole_run.whole_run.Goals as goal

pub returns-clause-run : goal.returns-clause-run
returns-clause-run c n m =
    let enters = sym c.entering.ensures.column ∙ ap (λ (e : Option Entering). option_map as_column e) c.in_default.is in
    (sym (c.loop-column.invariant.rest n m) ∙ whole_ends c.args.limit n m _ _ _ enters, c.loop-column.invariant.within)

pub returns-then-not-spend-clause-run : goal.returns-then-not-spend-clause-run
returns-then-not-spend-clause-run c n m =
    let s = spent_none c.spend.result c.loop-column.budget.spent c.loop-column.budget.limit c.spend.new.self.spent c.spend.ensures.answer c.spend.ensures.spent c.if-not-spend.true in
    let enters = sym c.entering.ensures.column ∙ ap (λ (e : Option Entering). option_map as_column e) c.in-Some.is in
    sym (c.loop-column.invariant.rest n m) ∙ whole_out c.args.limit n m (c.loop-column.budget.limit - c.loop-column.budget.spent) _ _ _ enters (omega (arith, s.0)) ∙ ap (λ (k : ℕ). Some (no_unit_left k)) (sym s.1)

pub returns-in-Unlimited-clause-run : goal.returns-in-Unlimited-clause-run
returns-in-Unlimited-clause-run c n m =
    let s = spent_one c.spend.result c.loop-column.budget.spent c.loop-column.budget.limit c.spend.new.self.spent c.spend.ensures.answer c.spend.ensures.spent c.if-not-spend.false in
    let enters = sym c.entering.ensures.column ∙ ap (λ (e : Option Entering). option_map as_column e) c.in-Some.is in
    let column = c.in-Some.column in
    let told = subst (λ (r : PivotEnd). IsPivotEnd c.args.limit column.place r c.loop-column.table c.pivot.new.self) c.in-Unlimited.is c.pivot.ensures.pivoted in
    let run0 = whole_run_from c.args.limit n m (c.args.budget.now.limit - c.args.budget.now.spent) c.args.budget.now.spent (as_whole c.args.table.now) in
    let ends = sym (c.loop-column.invariant.rest n m)
    ∙ whole_unlimited c.args.limit n m (c.loop-column.budget.limit - c.loop-column.budget.spent) _ _ _ enters told.0 (omega (arith, s.0))
    ∙ ap (λ (k : ℕ). Some (unbounded (whole_direction n (as_column column) (as_whole c.loop-column.table)) k)) (sym s.1) in
    let inside : column.place < length c.loop-column.table.labels.items = search rules in (
      subst (λ (t : IntegerTable). run0 ≡ Some (unbounded (whole_direction n (as_column column) t) c.spend.new.self.spent)) (sym told.1) ends,
      told.2,
      omega (arith, inside, c.pivot.ensures.shape.columns),
    )

pub loop-column-preserved : goal.loop-column-preserved
loop-column-preserved c =
    let s = spent_one c.spend.result c.loop-column.budget.spent c.loop-column.budget.limit c.spend.new.self.spent c.spend.ensures.answer c.spend.ensures.spent c.if-not-spend.false in
    let enters = sym c.entering.ensures.column ∙ ap (λ (e : Option Entering). option_map as_column e) c.in-Some.is in
    let told = subst (λ (r : PivotEnd). IsPivotEnd c.args.limit c.in-Some.column.place r c.loop-column.table c.pivot.new.self) c.in-Moved.is c.pivot.ensures.pivoted in
    let next = c.pivot.new.self in
    let fits = rows_fit_in c.args.limit (length next.labels.items + 1) next.basics.items (rows_in next.rows) told.2.rows.lines in
    let left : c.spend.new.self.limit - c.spend.new.self.spent ≡ c.loop-column.budget.limit - c.loop-column.budget.spent - 1 = omega (arith, s.1, c.spend.ensures.limit) in
    let turned = c.pivot.ensures.shape in
    let before = c.loop-column.invariant.shape in
    record {
      limit = c.spend.ensures.limit ∙ c.loop-column.invariant.limit;
      shape = record {
        columns = turned.columns ∙ before.columns;
        rows = turned.rows ∙ before.rows;
        room = record { rows = turned.room.rows ∙ before.room.rows; width = turned.room.width ∙ before.room.width };
      };
      within = told.2;
      rest = λ n m.
          ap (λ (k : ℕ). whole_run_from c.args.limit n m k c.spend.new.self.spent (as_whole next)) left
          ∙ ap (λ (k : ℕ). whole_run_from c.args.limit n m (c.loop-column.budget.limit - c.loop-column.budget.spent - 1) k (as_whole next)) s.1
          ∙ sym (whole_moves c.args.limit n m (c.loop-column.budget.limit - c.loop-column.budget.spent) _ _ _ _ enters told.0 told.1 fits (omega (arith, s.0)))
          ∙ c.loop-column.invariant.rest n m;
    }
