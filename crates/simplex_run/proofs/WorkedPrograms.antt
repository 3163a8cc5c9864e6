-- The worked programs, computed from the definitions.
use Rattle.std.proofs.Common.{refl}
use Rattle.exact_num.specs.Fits.{operations}
use Rattle.simplex_run.specs.Run.{table_run}
use Rattle.simplex_run.specs.Worked.{WorkedProgramsEnd}

pub worked_programs_end : WorkedProgramsEnd
unfolding table_run operations
worked_programs_end =
    record {
      too_wide_ends = refl;
      without_end_ends = refl;
      one_option_matched_ends = refl;
      empty_batch_ends = refl;
      equal_prices_stay_ends = refl;
      lower_strike_covers_ends = refl;
      butterfly_by_two_sells_ends = refl;
      cover_too_dear_ends = refl;
      surplus_too_wide_ends = refl;
      units_end = refl;
    }
