-- The worked runs, computed from the definitions.
use Rattle.std.proofs.Common.{refl}
use Rattle.exact_num.specs.Fits.{operations}
use Rattle.simplex_run.specs.Run.{table_run}
use Rattle.form.specs.FormOf.{form_of}
use Rattle.form.specs.BundleOf.{bundle_one, bundle_made}
use Rattle.line_cover.specs.Breakpoints.{insert, in_rising_price}
use Rattle.master_program.specs.Master.{master_steps}
use Rattle.master_program.specs.Reading.{reading_steps}
use Rattle.master_program.specs.Solve.{solve_steps}
use Rattle.constraint_generation.specs.Run.{line_run}
use Rattle.constraint_generation.specs.Worked.{OneOptionCleared, OneUnitIsTooFew, EqualPricesAreLeft, NoOrderCleared, LowerStrikeCleared, ButterflyCleared, DearCoverIsLeft, SpreadCleared, LargeBatchIsTooWide}

pub one_option_is_cleared : OneOptionCleared
unfolding solve_steps master_steps reading_steps operations form_of bundle_one table_run insert in_rising_price line_run
one_option_is_cleared = refl

pub one_unit_is_too_few : OneUnitIsTooFew
unfolding solve_steps master_steps reading_steps operations form_of bundle_one table_run insert in_rising_price line_run
one_unit_is_too_few = refl

pub equal_prices_are_left : EqualPricesAreLeft
unfolding solve_steps master_steps reading_steps operations form_of bundle_one table_run insert in_rising_price line_run
equal_prices_are_left = refl

pub butterfly_is_cleared : ButterflyCleared
unfolding solve_steps master_steps reading_steps operations form_of bundle_one table_run insert in_rising_price line_run
butterfly_is_cleared = refl

pub dear_cover_is_left : DearCoverIsLeft
unfolding solve_steps master_steps reading_steps operations form_of bundle_one table_run insert in_rising_price line_run
dear_cover_is_left = refl

pub spread_is_cleared : SpreadCleared
unfolding solve_steps master_steps reading_steps operations form_of bundle_one bundle_made table_run insert in_rising_price line_run
spread_is_cleared = refl

pub no_order_is_cleared : NoOrderCleared
unfolding solve_steps master_steps reading_steps operations form_of bundle_one table_run insert in_rising_price line_run
no_order_is_cleared = refl

pub lower_strike_is_cleared : LowerStrikeCleared
unfolding solve_steps master_steps reading_steps operations form_of bundle_one table_run insert in_rising_price line_run
lower_strike_is_cleared = refl

pub large_batch_is_too_wide : LargeBatchIsTooWide
unfolding solve_steps master_steps reading_steps operations form_of bundle_one table_run insert in_rising_price line_run
large_batch_is_too_wide = refl
