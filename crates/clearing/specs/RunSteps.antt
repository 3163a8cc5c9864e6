-- What an outcome is computed by, for those who compute one.
unfoldable pub use Rattle.constraint_generation.specs.RunSteps.{table_run, insert, in_rising_price, master_steps, reading_steps, solve_steps, node_program_steps, search_steps, rounds_steps, run_steps, joint_run, line_run}
unfoldable pub use Rattle.clearing.specs.Outcome.{fallback, optimal_outcome, outcome_of}
