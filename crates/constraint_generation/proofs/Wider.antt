-- A run without a misfit is the same with each greater limit.
use Rattle.std.proofs.Common.{ℕ, ◌-◌, ◌==◌, Bool, true, false, if◌then◌else◌, refl}
use Rattle.simplex_run.specs.Ending.{Ending, on_answer, where_fits}
use Rattle.simplex_run.proofs.Endings.{IsAlike, on_answer-alike}
use Rattle.line_cover.specs.Breakpoints.{later_states}
use Rattle.master_program.specs.Solve.{master_solve}
use Rattle.master_program.proofs.SolvedWider.{solves_are_the_same}
use Rattle.master_program.specs.Rounds.{limits_within, rounds}
use Rattle.master_program.proofs.NodeWider.{rounds_are_the_same}
use Rattle.constraint_generation.specs.Laws.{UnjudgedRunsAreTheSame, JointRunsAreTheSame}
use Rattle.constraint_generation.specs.Run.{CoveredReading, on_line, on_tree, sums_of, unjudged_run, joint_run}

by_count : (one : Bool) (line tree line' tree' : Ending CoveredReading) → IsAlike line line' → IsAlike tree tree' → IsAlike (if one then line else tree) (if one then line' else tree')
by_count true line tree line' tree' h k = h
by_count false line tree line' tree' h k = k

pub unjudged_runs_are_the_same : UnjudgedRunsAreTheSame
unjudged_runs_are_the_same limits greater n spent orders le =
    let wide = limits.payoff_limit in
    let left = limits.budget - spent in
    let solve = master_solve wide limits.limit left spent 1 orders (later_states orders) in
    let solve' = master_solve wide greater left spent 1 orders (later_states orders) in
    let searched = rounds limits n orders spent in
    let searched' = rounds (limits_within greater limits) n orders spent in
    by_count (n == 1) (on_answer solve on_line) (on_answer searched on_tree) (on_answer solve' on_line) (on_answer searched' on_tree)
    (on_answer-alike solve solve' on_line on_line (solves_are_the_same wide limits.limit greater left spent 1 orders (later_states orders) le) (λ r s fits. refl))
    (on_answer-alike searched searched' on_tree on_tree (rounds_are_the_same limits greater n spent orders le) (λ c s fits. refl))

pub joint_runs_are_the_same : JointRunsAreTheSame
unfolding joint_run
joint_runs_are_the_same limits greater n spent orders le =
    let sums : CoveredReading → ℕ → Ending CoveredReading = where_fits (sums_of limits.payoff_limit n orders) in
    on_answer-alike (unjudged_run limits n orders spent) (unjudged_run (limits_within greater limits) n orders spent) sums sums
    (unjudged_runs_are_the_same limits greater n spent orders le) (λ s units fits. refl)
