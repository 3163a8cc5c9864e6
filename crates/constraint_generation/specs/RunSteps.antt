-- What a run is computed by, for those who compute one.
unfoldable pub use Rattle.simplex_run.specs.Run.{table_run}
unfoldable pub use Rattle.line_cover.specs.Breakpoints.{insert, in_rising_price}
unfoldable pub use Rattle.master_program.specs.Master.{master_steps}
unfoldable pub use Rattle.master_program.specs.Reading.{reading_steps}
unfoldable pub use Rattle.master_program.specs.Solve.{solve_steps}
unfoldable pub use Rattle.master_program.specs.NodeSteps.{node_program_steps}
unfoldable pub use Rattle.master_program.specs.Search.{search_steps}
unfoldable pub use Rattle.master_program.specs.Rounds.{rounds_steps}
unfoldable pub use Rattle.search_laws.specs.Run.{run_steps}
unfoldable pub use Rattle.constraint_generation.specs.Run.{joint_run, line_run}
