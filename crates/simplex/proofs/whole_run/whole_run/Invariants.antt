use Rattle.std.proofs.Common.{◌≡◌, ◌-◌, ℕ}
use Rattle.run_equivalence.specs.WholeRunning.{whole_run_from}
use Rattle.integer_tableau.specs.Tables.{as_whole, IsWithin, SameShape}
use Rattle.simplex.proofs.whole_run.whole_run.Given as goal

-- the run from here on is the run asked for
abbrev pub invariant-loop-column : goal.invariant-loop-column
invariant-loop-column l = record {
  limit : l.budget.limit ≡ l.fn.budget.limit;
  shape : SameShape l.fn.table l.table;
  within : IsWithin l.limit l.table;
  rest :
      (n m : ℕ) → whole_run_from l.limit n m (l.budget.limit - l.budget.spent) l.budget.spent (as_whole l.table)
      ≡ whole_run_from l.limit n m (l.fn.budget.limit - l.fn.budget.spent) l.fn.budget.spent (as_whole l.fn.table);
}

abbrev pub decreases-loop-column : goal.decreases-loop-column
decreases-loop-column l = l.budget.limit - l.budget.spent
