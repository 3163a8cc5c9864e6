-- The run of a program: pivot after pivot, to an end or the first stop.
use Rattle.std.specs.Prelude.{ℕ, zero, suc, ◌+◌, List, [], ◌∷◌, length, pos, if◌then◌else◌, nat_eq, Option, Some, None, Result, Ok, Err}
use Rattle.exact_num.specs.declared.misfit.Wide.{Wide}
use Rattle.exact_num.specs.Fraction.{Fraction, whole, negated}
use Rattle.simplex_run.specs.Ending.{Ending, done, unbounded, wide_at, no_unit_left}
use Rattle.simplex_run.specs.Places.{at, values_at}
use Rattle.simplex_run.specs.Program.{LinearProgram}
use Rattle.simplex_run.specs.Table.{Table, right_side, where_basic, with_right, entry_for, no_entry, first_table}
use Rattle.simplex_run.specs.Choice.{Ratio, Column, entering, ratios, least, least_below, ratio_in}
use Rattle.simplex_run.specs.Pivot.{after_pivot, steps_of, divided, eliminated, rows_after}

-- what an optimum tells: the solution, the dual values, the reduced costs and the value
pub data Optimum : Type 0 where
  optimum : (x y reduced : List Fraction) (value : Fraction) → Optimum

-- ---- what is read off at the end, of n variables and m rows
-- the right side of the row where a variable is basic, and 0 for the others
abbrev pub solution : ℕ → Table → List Fraction
solution n t = values_at (λ j. where_basic (λ row. right_side (length t.labels) row.entries) j t.rows) 0 n

-- the objective entry of variable j: 0 where it is basic
abbrev pub reduced_cost_of : Table → ℕ → Fraction
reduced_cost_of t j = entry_for no_entry (with_right t.columns t.labels) t.objective j

-- the objective entries of the slacks and of the variables, and the objective's right side
abbrev pub dual : ℕ → ℕ → Table → List Fraction
dual n m t = values_at (reduced_cost_of t) n m

abbrev pub reduced_costs : ℕ → Table → List Fraction
reduced_costs n t = values_at (reduced_cost_of t) 0 n

abbrev pub value_of : Table → Fraction
value_of t = right_side (length t.labels) t.objective

unfoldable pub read_off : ℕ → ℕ → Table → ℕ → Ending Optimum
read_off n m t spent = done (optimum (solution n t) (dual n m t) (reduced_costs n t) (value_of t)) spent

-- 1 at the entering variable, and what its column then asks of each basic variable
unfoldable pub direction : ℕ → Column → Table → List Fraction
direction n c t =
    values_at (λ j. if nat_eq j c.label then whole (pos 1) else where_basic (λ row. negated (at row.entries c.place)) j t.rows) 0 n

-- ---- one pivot
-- what one pivot does in which column c enters, the unit being spent
pub data PivotEnd : Type 0 where
  moved : (table : Table) → PivotEnd
  unlimited : PivotEnd
  stopped : (wide : Wide) → PivotEnd

abbrev pub moved_or_stopped : Result Table Wide → PivotEnd
moved_or_stopped (Ok next) = moved next
moved_or_stopped (Err w) = stopped w

-- the row of the least ratio leaves; with no ratio nothing limits the entering variable
abbrev pub leave : ℕ → ℕ → Table → List Ratio → PivotEnd
leave limit c t [] = unlimited
leave limit c t (q ∷ qs) = moved_or_stopped (after_pivot limit c (least q qs).place t)

abbrev pub on_ratios : Result (List Ratio) Wide → (List Ratio → PivotEnd) → PivotEnd
on_ratios (Ok qs) next = next qs
on_ratios (Err w) next = stopped w

unfoldable pub pivoted : ℕ → ℕ → Table → PivotEnd
pivoted limit c t = on_ratios (ratios limit (length t.labels) c 0 t.rows) (λ qs. leave limit c t qs)

-- ---- pivot after pivot
-- what follows where no column enters, and where one does
abbrev pub on_entering : Option Column → Ending Optimum → (Column → Ending Optimum) → Ending Optimum
on_entering None ended next = ended
on_entering (Some c) ended next = next c

-- what follows a pivot
abbrev pub on_pivot : PivotEnd → (Table → Ending Optimum) → Ending Optimum → (Wide → Ending Optimum) → Ending Optimum
on_pivot (moved next) go end wide = go next
on_pivot unlimited go end wide = end
on_pivot (stopped w) go end wide = wide w

-- the run from a table on, with `left` units left and `spent` units spent
unfoldable pub run_from : ℕ → ℕ → ℕ → ℕ → ℕ → Table → Ending Optimum
run_from limit n m zero spent t = on_entering (entering t) (read_off n m t spent) (λ c. no_unit_left spent)
run_from limit n m (suc left) spent t =
    on_entering (entering t) (read_off n m t spent)
    (λ c. on_pivot (pivoted limit c.place t)
    (λ next. run_from limit n m left (spent + 1) next)
    (unbounded (direction n c t) (spent + 1))
    (λ w. wide_at (spent + 1) w))

-- the run of a program with `left` units left and `spent` units spent before
unfoldable pub run : ℕ → LinearProgram → ℕ → ℕ → Ending Optimum
run limit p left spent = run_from limit p.variables p.rows left spent (first_table p)

-- opens the definitions of the run, for a proof that computes with numerals
unfoldable pub table_run : Unit {0}
unfolding values_at where_basic entry_for first_table least_below entering ratio_in ratios least steps_of divided eliminated rows_after after_pivot read_off direction pivoted run_from run
table_run = tt
