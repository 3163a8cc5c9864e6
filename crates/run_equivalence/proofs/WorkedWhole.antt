-- The worked programs over rows of whole numbers, computed from the definitions.
use Rattle.std.proofs.Common.{refl}
use Rattle.exact_num.specs.Fits.{operations}
use Rattle.simplex_run.specs.Run.{table_run}
use Rattle.run_equivalence.specs.WholeRunning.{whole_rows_run}
use Rattle.run_equivalence.specs.WorkedWhole.{WholeProgramsEnd}

pub whole_programs_end : WholeProgramsEnd
unfolding whole_rows_run table_run operations
whole_programs_end =
    record {
      too_wide_ends = refl;
      without_end_ends = refl;
      one_option_matched_ends = refl;
      empty_batch_ends = refl;
      equal_prices_stay_ends = refl;
      lower_strike_covers_ends = refl;
      butterfly_by_two_sells_ends = refl;
      cover_too_dear_ends = refl;
      wide_surplus_ends = refl;
      surplus_too_wide_ends = refl;
      out_of_order_ends = refl;
      as_fractions = refl;
      units_end = refl;
    }
