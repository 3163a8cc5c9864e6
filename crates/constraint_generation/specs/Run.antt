-- The reference run of a batch. On one underlying: the master program over the states of the line,
-- what is read off its optimum, and the sums of the verdict. On several: the rounds, and the sums.
use Rattle.std.specs.Prelude.{ℕ, ◌-◌, ◌==◌, if◌then◌else◌, List, Bool, Result}
use Rattle.std.specs.List.{zip}
use Rattle.exact_num.specs.declared.misfit.Wide.{Wide}
use Rattle.simplex_run.specs.Ending.{Ending, done, on_answer, where_fits}
use Rattle.form.specs.declared.orders.Order.{Order}
use Rattle.line_cover.specs.Line.{line_holds}
use Rattle.line_cover.specs.Breakpoints.{later_states}
use Rattle.master_program.specs.Reading.{Reading}
use Rattle.master_program.specs.Solve.{master_solve}
use Rattle.master_program.specs.Verdict.{sums_with}
use Rattle.clearing_model.specs.Written.{WrittenTree}
use Rattle.master_program.specs.Rounds.{Limits, Cleared, rounds}
pub use Rattle.search_laws.specs.Run.{sums_hold as tree_sums_hold}
unfoldable pub use Rattle.search_laws.specs.Run.{tree_run}

-- the sums of the verdict on what was read off, in order: surplus, line, measure and bound
abbrev pub sums_hold : ℕ → List Order → Reading → Result Bool Wide
sums_hold limit orders r = sums_with limit orders r (line_holds limit (zip orders r.fills) orders r.liability)

-- the run on one underlying with `left` units left and `spent` units spent before: the master
-- program over the states of the line is solved, and last come the sums. Payoffs and these sums are
-- in the wide limit, the solver's numbers in the other
unfoldable pub line_run : (wide_limit limit left spent : ℕ) → List Order → Ending Reading
line_run wide_limit limit left spent orders =
    on_answer (master_solve wide_limit limit left spent 1 orders (later_states orders)) (where_fits (sums_hold wide_limit orders))

-- ---- whatever the number of underlyings
-- what shows that the liability is enough: the line of one underlying, or a tree
pub data WrittenCover : Type 0 where
  by_line : WrittenCover
  by_tree : (tree : WrittenTree) → WrittenCover

-- what a run clears, and what covers it
abbrev pub CoveredReading : Type 0
CoveredReading = Reading × WrittenCover

abbrev pub on_line : Reading → ℕ → Ending CoveredReading
on_line r spent = done (r, by_line) spent

abbrev pub on_tree : Cleared → ℕ → Ending CoveredReading
on_tree (r, tree) spent = done (r, by_tree tree) spent

-- the run of a batch on n underlyings before the sums, with so many units spent before: the master
-- program over the states of the line, or the rounds
abbrev pub unjudged_run : Limits → ℕ → List Order → ℕ → Ending CoveredReading
unjudged_run limits n orders spent =
    if n == 1 then on_answer (master_solve limits.payoff_limit limits.limit (limits.budget - spent) spent 1 orders (later_states orders)) on_line
    else on_answer (rounds limits n orders spent) on_tree

-- the sums of the verdict on a solution with its cover
abbrev pub sums_of : ℕ → ℕ → List Order → CoveredReading → Result Bool Wide
sums_of limit n orders (r, by_line) = sums_hold limit orders r
sums_of limit n orders (r, by_tree tree) = tree_sums_hold limit n orders (r, tree)

-- the run of a batch on n underlyings with so many units spent before: last come the sums, in the
-- limit of payoffs
unfoldable pub joint_run : Limits → ℕ → List Order → ℕ → Ending CoveredReading
joint_run limits n orders spent = on_answer (unjudged_run limits n orders spent) (where_fits (sums_of limits.payoff_limit n orders))
