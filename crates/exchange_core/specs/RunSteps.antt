-- What a cleared batch is computed by, for those who compute one.
unfoldable pub use Rattle.clearing.specs.RunSteps.{table_run, insert, in_rising_price, master_steps, reading_steps, solve_steps, joint_run, line_run, optimal_outcome, outcome_of}
