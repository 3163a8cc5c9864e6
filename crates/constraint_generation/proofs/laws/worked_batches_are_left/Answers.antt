use Rattle.constraint_generation.proofs.WorkedRuns.{equal_prices_are_left, dear_cover_is_left, one_unit_is_too_few, large_batch_is_too_wide}
use Rattle.constraint_generation.proofs.laws.worked_batches_are_left.Goals as goal

pub returns : goal.returns
returns c = record {
  equal_prices = equal_prices_are_left;
  dear_cover = dear_cover_is_left;
  one_unit = one_unit_is_too_few;
  too_wide = large_batch_is_too_wide;
}
