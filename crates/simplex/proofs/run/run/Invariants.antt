use Rattle.std.proofs.Common.{◌≡◌, ◌-◌, ℕ, unsigned_abs}
use Rattle.simplex_run.specs.Run.{run_from}
use Rattle.fraction_tableau.specs.Tables.{as_table, SameShape}
use Rattle.simplex.proofs.run.run.Given as goal

-- the run from here on is the run asked for
abbrev pub invariant-loop-column : goal.invariant-loop-column
invariant-loop-column g l = record {
  limit : l.budget.limit ≡ l.fn.budget.limit;
  shape : SameShape l.fn.table l.table;
  rest :
      (n m : ℕ) → run_from (unsigned_abs g.N.Exact.LIMIT) n m (l.budget.limit - l.budget.spent) l.budget.spent (as_table g.N.Exact.fraction l.table)
      ≡ run_from (unsigned_abs g.N.Exact.LIMIT) n m (l.fn.budget.limit - l.fn.budget.spent) l.fn.budget.spent (as_table g.N.Exact.fraction l.fn.table);
}

abbrev pub decreases-loop-column : goal.decreases-loop-column
decreases-loop-column g l = l.budget.limit - l.budget.spent
