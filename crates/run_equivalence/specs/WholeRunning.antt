-- The run over rows of whole numbers: pivot after pivot, to an end or until it is given up.
use Rattle.std.specs.Prelude.{ℕ, zero, suc, ◌+◌, List, [], ◌∷◌, length, ℤ, pos, neg_ℤ, if◌then◌else◌, nat_eq, ◌&&◌, Option, Some, None}
use Rattle.exact_num.specs.Fraction.{Fraction, whole, reduced}
use Rattle.simplex_run.specs.Places.{fraction_zero, values_at}
use Rattle.simplex_run.specs.Program.{LinearProgram}
use Rattle.simplex_run.specs.Table.{with_right, entry_for, first_table}
use Rattle.simplex_run.specs.Choice.{Column}
use Rattle.simplex_run.specs.Ending.{Ending, done, unbounded, no_unit_left}
use Rattle.simplex_run.specs.Run.{Optimum, optimum}
use Rattle.run_equivalence.specs.IntegerRows.{WholeRow, IntegerTable, number_at, entry_of, fractions_over, table_taken_in, least_multiple, greatest_size, numbers_fit, rows_fit}
use Rattle.run_equivalence.specs.WholePivoting.{least_column, whole_entering, whole_ratios, cross_difference, content, cut, cut_where_wide, whole_rows_after, whole_pivoted, whole_pivot, rows_steps_within, pivot_fits}

-- ---- what is read off at the end, in lowest terms
unfoldable pub whole_where_basic : (WholeRow → Fraction) → ℕ → List WholeRow → Fraction
whole_where_basic f j [] = fraction_zero
whole_where_basic f j (row ∷ rows) = let later = whole_where_basic f j rows in if nat_eq row.basic j then f row else later

abbrev pub none_of : ℕ → ℤ
none_of j = pos 0

-- the price of variable j: 0 where it is basic
abbrev pub whole_reduced_cost : IntegerTable → ℕ → Fraction
whole_reduced_cost t j = reduced (entry_for none_of (with_right t.columns t.labels) t.objective.numbers j) t.objective.denominator

abbrev pub whole_solution : ℕ → IntegerTable → List Fraction
whole_solution n t = values_at (λ j. whole_where_basic (λ row. entry_of row.line (length t.labels)) j t.rows) 0 n

unfoldable pub whole_read_off : ℕ → ℕ → IntegerTable → ℕ → Ending Optimum
whole_read_off n m t spent =
    done (optimum (whole_solution n t) (values_at (whole_reduced_cost t) n m) (values_at (whole_reduced_cost t) 0 n) (entry_of t.objective (length t.labels))) spent

unfoldable pub whole_direction : ℕ → Column → IntegerTable → List Fraction
whole_direction n c t =
    values_at (λ j. if nat_eq j c.label then whole (pos 1) else whole_where_basic (λ row. reduced (neg_ℤ (number_at row.line.numbers c.place)) row.line.denominator) j t.rows) 0 n

-- ---- pivot after pivot; None: a row or a step of a pivot is beyond the limit, and the run is given up
abbrev pub on_column : Option Column → Option (Ending Optimum) → (Column → Option (Ending Optimum)) → Option (Ending Optimum)
on_column None ended next = ended
on_column (Some c) ended next = next c

abbrev pub on_whole_pivot : Option IntegerTable → Option (Ending Optimum) → (IntegerTable → Option (Ending Optimum)) → Option (Ending Optimum)
on_whole_pivot None ended next = ended
on_whole_pivot (Some t) ended next = next t

unfoldable pub whole_run_from : ℕ → ℕ → ℕ → ℕ → ℕ → IntegerTable → Option (Ending Optimum)
whole_run_from limit n m zero spent t = on_column (whole_entering t) (Some (whole_read_off n m t spent)) (λ c. Some (no_unit_left spent))
whole_run_from limit n m (suc left) spent t =
    on_column (whole_entering t) (Some (whole_read_off n m t spent))
    (λ c. on_whole_pivot (whole_pivot c.place t) (Some (unbounded (whole_direction n c t) (spent + 1)))
    (λ next. let later = whole_run_from limit n m left (spent + 1) next in if pivot_fits limit c.place t && rows_fit limit next.rows then later else None))

unfoldable pub first_whole_table : LinearProgram → IntegerTable
first_whole_table p = table_taken_in (first_table p)

-- the run of a program with `left` units left and `spent` units spent before
unfoldable pub whole_run : ℕ → LinearProgram → ℕ → ℕ → Option (Ending Optimum)
whole_run limit p left spent =
    let later = whole_run_from limit p.variables p.rows left spent (first_whole_table p) in
    if rows_fit limit (first_whole_table p).rows then later else None

-- ---- the tables of the run
abbrev pub within : ℕ → IntegerTable → Option IntegerTable
within limit w = if rows_fit limit w.rows then Some w else None

abbrev pub within_moved : ℕ → Option IntegerTable → Option IntegerTable
within_moved limit None = None
within_moved limit (Some u) = within limit u

abbrev pub whole_moved_by : ℕ → IntegerTable → Option Column → Option IntegerTable
whole_moved_by limit w None = None
whole_moved_by limit w (Some c) = let turned = within_moved limit (whole_pivot c.place w) in if pivot_fits limit c.place w then turned else None

abbrev pub next_whole_table : ℕ → Option IntegerTable → Option IntegerTable
next_whole_table limit None = None
next_whole_table limit (Some w) = whole_moved_by limit w (whole_entering w)

-- the table after k pivots, where there are as many and none is given up
unfoldable pub whole_table_after : ℕ → LinearProgram → ℕ → Option IntegerTable
whole_table_after limit p zero = within limit (first_whole_table p)
whole_table_after limit p (suc k) = next_whole_table limit (whole_table_after limit p k)

-- opens the definitions of the run, for a proof that computes with numerals
unfoldable pub whole_rows_run : Unit {0}
unfolding fractions_over least_multiple greatest_size numbers_fit rows_fit least_column whole_entering whole_ratios cross_difference content cut cut_where_wide whole_rows_after whole_pivoted whole_pivot rows_steps_within pivot_fits whole_where_basic whole_read_off whole_direction whole_run_from first_whole_table whole_run
whole_rows_run = tt
