use Rattle.master_program.proofs.WorkedBatches.{solves_end, no_order_is_matched, equal_prices_are_built, lower_strike_is_built, large_batch_is_built, one_option_is_matched, butterfly_is_matched, cover_is_too_dear, put_is_bought, spread_is_covered, basket_is_covered}
use Rattle.master_program.proofs.program.worked_batches_are_read.Goals as goal

pub returns-clause-one_option_matched : goal.returns-clause-one_option_matched
returns-clause-one_option_matched c = one_option_is_matched

pub returns-clause-butterfly_by_two_sells : goal.returns-clause-butterfly_by_two_sells
returns-clause-butterfly_by_two_sells c = butterfly_is_matched

pub returns-clause-cover_too_dear : goal.returns-clause-cover_too_dear
returns-clause-cover_too_dear c = cover_is_too_dear

pub returns-clause-put_above_its_strike : goal.returns-clause-put_above_its_strike
returns-clause-put_above_its_strike c = put_is_bought

pub returns-clause-spread : goal.returns-clause-spread
returns-clause-spread c = spread_is_covered

pub returns-clause-second_round : goal.returns-clause-second_round
returns-clause-second_round c = basket_is_covered

pub returns-clause-empty_batch : goal.returns-clause-empty_batch
returns-clause-empty_batch c = no_order_is_matched

pub returns-clause-equal_prices_stay : goal.returns-clause-equal_prices_stay
returns-clause-equal_prices_stay c = equal_prices_are_built

pub returns-clause-lower_strike_covers : goal.returns-clause-lower_strike_covers
returns-clause-lower_strike_covers c = lower_strike_is_built

pub returns-clause-surplus_too_wide : goal.returns-clause-surplus_too_wide
returns-clause-surplus_too_wide c = large_batch_is_built

pub returns-clause-whole_solves : goal.returns-clause-whole_solves
returns-clause-whole_solves c = solves_end
