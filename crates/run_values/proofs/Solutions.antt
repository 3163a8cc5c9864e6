-- The whole run of a batch.
use Rattle.std.proofs.Common.{◌==◌, ◌-◌, Bool, true, false, sym, subst}
use Rattle.frac.specs.Range.{limit as largest}
use Rattle.constraint_generation.specs.Answers.{limits_of}
use Rattle.constraint_generation.specs.Run.{on_line, on_tree, tree_run}
use Rattle.constraint_generation.proofs.JointRuns.{by_count, joint_run-is, the_line}
use Rattle.run_values.specs.Values.{Ends, IsReadingOf, IsSolutionOf}
use Rattle.run_values.specs.Laws.{RunsHaveValues}
use Rattle.run_values.proofs.LineRuns.{line_run_has}
use Rattle.run_values.proofs.Numbers.{answer_ends}
use Rattle.run_values.proofs.Searches.{IsClearedOf}
use Rattle.run_values.proofs.TreeSums.{tree_run_ends}

pub runs_have_values : RunsHaveValues
runs_have_values batch budget within = subst (Ends IsSolutionOf) (sym (joint_run-is (limits_of largest budget) batch.underlyings batch.orders 0)) (by (batch.underlyings == 1))
  where
    by : (one : Bool) → Ends IsSolutionOf (by_count one (limits_of largest budget) batch.underlyings batch.orders 0)
    by true =
        answer_ends IsReadingOf IsSolutionOf (the_line (limits_of largest budget) batch.orders 0) on_line (line_run_has (budget - 0) 0 batch.orders within.orders_within)
        (λ r units of. (of, tt))
    by false =
        answer_ends IsClearedOf IsSolutionOf (tree_run (limits_of largest budget) batch.underlyings batch.orders 0) on_tree (tree_run_ends budget batch.underlyings 0 batch.orders within.orders_fit within.orders_within)
        (λ c units of. of)
