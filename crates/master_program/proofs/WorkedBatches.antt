-- The worked batches, computed from the definitions.
use Rattle.std.proofs.Common.{refl}
use Rattle.exact_num.specs.Fits.{operations}
use Rattle.simplex_run.specs.Run.{table_run}
use Rattle.form.specs.FormOf.{form_of}
use Rattle.form.specs.BundleOf.{bundle_one, bundle_made}
use Rattle.master_program.specs.Master.{master_steps}
use Rattle.master_program.specs.Reading.{reading_steps}
use Rattle.master_program.specs.Solve.{solve_steps}
use Rattle.master_program.specs.Worked.{EmptyBatch, OneOptionMatched, EqualPricesStay, LowerStrikeCovers, ButterflyByTwoSells, CoverTooDear, PutAboveItsStrike, SpreadIsCovered, SecondRound, SurplusTooWide, WholeSolves}

pub no_order_is_matched : EmptyBatch
unfolding master_steps reading_steps operations form_of bundle_one
no_order_is_matched = record { program = refl; reading = refl }

pub equal_prices_are_built : EqualPricesStay
unfolding master_steps operations form_of bundle_one
equal_prices_are_built = refl

pub lower_strike_is_built : LowerStrikeCovers
unfolding master_steps operations form_of bundle_one
lower_strike_is_built = refl

pub large_batch_is_built : SurplusTooWide
unfolding master_steps operations form_of bundle_one
large_batch_is_built = refl

pub one_option_is_matched : OneOptionMatched
unfolding master_steps reading_steps operations form_of bundle_one
one_option_is_matched = record { program = refl; reading = refl }

pub butterfly_is_matched : ButterflyByTwoSells
unfolding master_steps reading_steps operations form_of bundle_one
butterfly_is_matched = record { program = refl; reading = refl }

pub cover_is_too_dear : CoverTooDear
unfolding master_steps reading_steps operations form_of bundle_one
cover_is_too_dear = record { program = refl; reading = refl }

pub put_is_bought : PutAboveItsStrike
unfolding master_steps reading_steps operations form_of bundle_one table_run
put_is_bought = record { program = refl; optimum = refl; reading = refl }

pub spread_is_covered : SpreadIsCovered
unfolding master_steps operations form_of bundle_one bundle_made
spread_is_covered = refl

pub basket_is_covered : SecondRound
unfolding master_steps reading_steps operations form_of bundle_one table_run
basket_is_covered = record { program = refl; optimum = refl; reading = refl }

pub solves_end : WholeSolves
unfolding solve_steps master_steps reading_steps operations form_of bundle_one table_run
solves_end = record { matched = refl; one_unit_short = refl; too_wide = refl }
