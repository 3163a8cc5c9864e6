-- One step of the run over rows of whole numbers, and from that run to the run over fractions.
use Rattle.std.proofs.Common.{◌≡◌, ℕ, zero, suc, ◌+◌, ◌-◌, ◌<◌, length, refl, sym, ◌∙◌, ap, subst, arith, true}
use Rattle.std.specs.Prelude.{Some, None, Err}
use Rattle.simplex_run.specs.Program.{LinearProgram}
use Rattle.simplex_run.specs.Optimum.{IsProgram}
use Rattle.simplex_run.specs.Table.{first_table}
use Rattle.simplex_run.specs.Ending.{Ending, no_unit_left, unbounded, done}
use Rattle.simplex_run.specs.Run.{Optimum, run}
use Rattle.run_equivalence.specs.IntegerRows.{IntegerTable, rows_fit}
use Rattle.simplex_run.specs.Choice.{Column}
use Rattle.run_equivalence.specs.WholePivoting.{whole_entering, whole_pivot, pivot_fits}
use Rattle.run_equivalence.specs.WholeRunning.{whole_read_off, whole_direction, whole_run_from, whole_run, first_whole_table}
use Rattle.run_equivalence.proofs.RunSteps.{runs_agree}
use Rattle.integer_tableau.specs.declared.table.WholeTable.{WholeTable}
use Rattle.fraction_tableau.specs.declared.columns.Entering.{Entering}
use Rattle.fraction_tableau.specs.Labels.{as_column}
use Rattle.integer_tableau.specs.Stored.{rows_in}
use Rattle.integer_tableau.specs.Tables.{as_whole, IsWithin, SameShape}
use Rattle.integer_tableau.proofs.Pivoting.{rows_fit_in}
use Rattle.fraction_tableau.specs.declared.table.Table.{Table}
use Rattle.simplex_run.proofs.Listed.{listed_count}
use Rattle.exact_num.specs.Fraction.{Fraction}
use Rattle.simplex_run.specs.Units.{units_of}
use Rattle.simplex.specs.Spaces.{EndsAs, answer_of, contents_after, stopped, whole_optimum_in}
use Rattle.simplex.specs.Attempts.{IsStageOf}
use Rattle.simplex.specs.WholeEnds.{IsWholeEnd}
use Rattle.simplex.specs.declared.whole_run.WholeEnd.TheVariants.{Optimal as WholeOptimum, Unbounded as WholeRay, NoUnit}
use Rattle.simplex.specs.declared.stage.Stage.TheVariants.{WholeOptimal, WholeUnbounded}
use Rattle.simplex.specs.declared.stop.RunStop.TheVariants.{Budget as RunBudget}

pub whole_ends : (limit n m left spent : ℕ) (t : IntegerTable) → whole_entering t ≡ None → whole_run_from limit n m left spent t ≡ Some (whole_read_off n m t spent)
unfolding whole_run_from
whole_ends limit n m zero spent t h = rw h refl
whole_ends limit n m (suc left) spent t h = rw h refl

pub whole_out : (limit n m left spent : ℕ) (t : IntegerTable) (c : Column) → whole_entering t ≡ Some c → left ≡ 0 → whole_run_from limit n m left spent t ≡ Some (no_unit_left spent)
unfolding whole_run_from
whole_out limit n m zero spent t c h z = rw h refl
whole_out limit n m (suc left) spent t c h z = absurd (omega (arith, z))

pub whole_moves : (limit n m left spent : ℕ) (t next : IntegerTable) (c : Column) → whole_entering t ≡ Some c → whole_pivot c.place t ≡ Some next → pivot_fits limit c.place t ≡ true → rows_fit limit next.rows ≡ true → 0 < left
    → whole_run_from limit n m left spent t ≡ whole_run_from limit n m (left - 1) (spent + 1) next
unfolding whole_run_from
whole_moves limit n m zero spent t next c h k o f p = absurd (omega (arith, p))
whole_moves limit n m (suc left) spent t next c h k o f p = let less : suc left - 1 ≡ left = omega arith in rw (h, k, o, f, less) refl

pub whole_unlimited : (limit n m left spent : ℕ) (t : IntegerTable) (c : Column) → whole_entering t ≡ Some c → whole_pivot c.place t ≡ None → 0 < left
    → whole_run_from limit n m left spent t ≡ Some (unbounded (whole_direction n c t) (spent + 1))
unfolding whole_run_from
whole_unlimited limit n m zero spent t c h k p = absurd (omega (arith, p))
whole_unlimited limit n m (suc left) spent t c h k p = rw (h, k) refl

pub whole_found_is : (n m spent : ℕ) (t : IntegerTable) → length t.labels ≡ n → whole_read_off n m t spent ≡ done (whole_optimum_in n m t) spent
unfolding whole_read_off
whole_found_is n m spent t e = refl

-- ---- the run of the program
started : (limit left spent : ℕ) (p : LinearProgram) (t : IntegerTable) → t ≡ first_whole_table p → rows_fit limit t.rows ≡ true → whole_run limit p left spent ≡ whole_run_from limit p.variables p.rows left spent t
unfolding whole_run
started limit left spent p t first fits =
    let test : rows_fit limit (first_whole_table p).rows ≡ true = ap (λ (u : IntegerTable). rows_fit limit u.rows) (sym first) ∙ fits in
    rw test (ap (whole_run_from limit p.variables p.rows left spent) (sym first))

pub whole_is_run : (limit left spent : ℕ) (p : LinearProgram) (t : IntegerTable) (E : Ending Optimum) → IsProgram p → t ≡ first_whole_table p → rows_fit limit t.rows ≡ true
    → whole_run_from limit p.variables p.rows left spent t ≡ Some E → run limit p left spent ≡ E
whole_is_run limit left spent p t E g first fits h = runs_agree limit p left spent E g (started limit left spent p t first fits ∙ h)

-- ---- a run of the program that was taken in
pub record IsStarted (limit : ℕ) (p : LinearProgram) (w : WholeTable) : Type 0 where
  pub given : IsProgram p
  pub first : as_whole w ≡ first_whole_table p
  pub within : IsWithin limit w

pub started_at : (limit : ℕ) (p : LinearProgram) (w : WholeTable) → IsProgram p → as_whole w ≡ first_whole_table p → IsWithin limit w → IsStarted limit p w
started_at limit p w g taken within = record { given = g; first = taken; within = within }

first_labels : (q : LinearProgram) → length (first_whole_table q).labels ≡ q.variables
unfolding first_whole_table first_table
first_labels q = listed_count (λ i. i) 0 q.variables

first_columns : (q : LinearProgram) → (first_whole_table q).columns ≡ q.variables + q.rows
unfolding first_whole_table first_table
first_columns q = refl

-- the limit is that of the numbers, as the code holds it
module _ {A : Type 0} (value : A → Fraction) (limit held left spent after : ℕ) (p : LinearProgram) (t : Table A) (w1 w2 : WholeTable) (g : IsStarted limit p w1) (same : held ≡ limit) (shape : SameShape w1 w2) where
  is_run : (E : Ending Optimum) → whole_run_from held p.variables p.rows left spent (as_whole w1) ≡ Some E → run limit p left spent ≡ E
  is_run E h =
      let fits = rows_fit_in limit (length w1.labels.items + 1) w1.basics.items (rows_in w1.rows) g.within.rows.lines in
      let of_limit = ap (λ (l : ℕ). whole_run_from l p.variables p.rows left spent (as_whole w1)) (sym same) in
      whole_is_run limit left spent p (as_whole w1) E g.given g.first fits (of_limit ∙ h)

  there : IsWithin held w2 → IsWithin limit w2
  there h = subst (λ (l : ℕ). IsWithin l w2) same h

  variables : length w2.labels.items ≡ p.variables
  variables = shape.columns ∙ ap (λ (x : IntegerTable). length x.labels) g.first ∙ first_labels p

  rows : length w2.basics.items ≡ p.rows
  rows =
      let columns = ap (λ (x : IntegerTable). x.columns) g.first ∙ first_columns p in
      let labels = sym shape.columns ∙ variables in
      let many = shape.rows in
      omega (arith, columns, labels, many)

  pub whole_optimum : IsWholeEnd held p.variables p.rows WholeOptimum after w2 (whole_run_from held p.variables p.rows left spent (as_whole w1))
      → IsStageOf value limit p (run limit p left spent) WholeOptimal after t w2
  whole_optimum h =
      let found : run limit p left spent ≡ whole_read_off (length w2.labels.items) (length w2.basics.items) (as_whole w2) after =
      is_run _ h.0 ∙ (λ i. whole_read_off (sym variables i) (sym rows i) (as_whole w2) after) in
      let e : done (whole_optimum_in (length w2.labels.items) (length w2.basics.items) (as_whole w2)) after ≡ run limit p left spent =
      sym (whole_found_is (length w2.labels.items) (length w2.basics.items) after (as_whole w2) refl) ∙ sym found in
      record {
        answer = ap answer_of e;
        contents = ap contents_after e;
        units = ap units_of e;
        there = there h.1;
      }

  pub whole_ray : (c : Entering) → IsWholeEnd held p.variables p.rows (WholeRay c) after w2 (whole_run_from held p.variables p.rows left spent (as_whole w1))
      → IsStageOf value limit p (run limit p left spent) (WholeUnbounded c) after t w2
  whole_ray c h =
      let e : unbounded (whole_direction (length w2.labels.items) (as_column c) (as_whole w2)) after ≡ run limit p left spent =
      ap (λ n. unbounded (whole_direction n (as_column c) (as_whole w2)) after) variables ∙ sym (is_run _ h.0) in
      record {
        answer = ap answer_of e;
        contents = ap contents_after e;
        units = ap units_of e;
        there = (there h.1, h.2);
      }

  pub whole_no_unit : IsWholeEnd held p.variables p.rows NoUnit after w2 (whole_run_from held p.variables p.rows left spent (as_whole w1))
      → EndsAs (run limit p left spent) (Err RunBudget) stopped after
  whole_no_unit h =
      let e : no_unit_left after ≡ run limit p left spent = sym (is_run _ h) in
      record { answer = ap answer_of e; contents = ap contents_after e; units = ap units_of e }
