use Rattle.constraint_generation.proofs.WorkedRuns.{no_order_is_cleared, one_option_is_cleared, lower_strike_is_cleared, butterfly_is_cleared, spread_is_cleared}
use Rattle.constraint_generation.proofs.laws.worked_batches_are_run.Goals as goal

pub returns : goal.returns
returns c = record {
  no_order = no_order_is_cleared;
  one_option = one_option_is_cleared;
  lower_strike = lower_strike_is_cleared;
  butterfly = butterfly_is_cleared;
  spread = spread_is_cleared;
}
