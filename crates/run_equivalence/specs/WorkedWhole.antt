-- The worked programs over rows of whole numbers: the same ends, where each step stays within the
-- limit.
use Rattle.std.specs.Prelude.{◌≡◌, ◌^◌, ◌-◌, [], ◌∷◌, pos, Option, Some, None}
use Rattle.exact_num.specs.Fraction.{whole}
use Rattle.simplex_run.specs.Program.{LinearProgram}
use Rattle.simplex_run.specs.Ending.{Ending, done, unbounded, no_unit_left}
use Rattle.simplex_run.specs.Run.{Optimum, optimum}
use Rattle.simplex_run.specs.Worked.{program_of, at_most, wholes, minus, worked, too_wide, without_end, one_option_matched, empty_batch, equal_prices_stay, lower_strike_covers, butterfly_by_two_sells, cover_too_dear, surplus_too_wide, without_end_end, one_option_matched_end, empty_batch_end, equal_prices_stay_end, lower_strike_covers_end, butterfly_by_two_sells_end, cover_too_dear_end}
use Rattle.run_equivalence.specs.WholeRunning.{whole_run}

-- 2^40 x under x <= 2^40
abbrev pub wide_surplus : LinearProgram
wide_surplus = program_of (pos (2 ^ 40) ∷ []) (at_most (pos 1 ∷ []) (pos (2 ^ 40)) ∷ [])

abbrev pub wide_surplus_end : Ending Optimum
wide_surplus_end = done (optimum (wholes (pos (2 ^ 40) ∷ [])) (wholes (pos (2 ^ 40) ∷ [])) (wholes (pos 0 ∷ [])) (whole (pos (2 ^ 80)))) 1

-- 3 x1 + x2 under -2 x0 + 2 x1 - x2 <= 0 and -x0 + 3 x1 <= 1: after two pivots the columns are out
-- of order, and the first of them below 0 is not that of the smallest variable
abbrev pub out_of_order : LinearProgram
out_of_order =
    program_of (pos 0 ∷ pos 3 ∷ pos 1 ∷ [])
    (at_most (minus 2 ∷ pos 2 ∷ minus 1 ∷ []) (pos 0)
    ∷ at_most (minus 1 ∷ pos 3 ∷ pos 0 ∷ []) (pos 1)
    ∷ [])

-- the run with each step within 127 bits, and 20,000 units
abbrev pub whole_worked : LinearProgram → Option (Ending Optimum)
whole_worked p = whole_run (2 ^ 127 - 1) p 20000 0

-- a step of the first is beyond the limit, and so is the surplus of `surplus_too_wide`. That of
-- `wide_surplus` is beyond 64 bits alone
pub record WholeProgramsEnd : Type 0 where
  pub too_wide_ends : whole_worked too_wide ≡ None
  pub without_end_ends : whole_worked without_end ≡ Some without_end_end
  pub one_option_matched_ends : whole_worked one_option_matched ≡ Some one_option_matched_end
  pub empty_batch_ends : whole_worked empty_batch ≡ Some empty_batch_end
  pub equal_prices_stay_ends : whole_worked equal_prices_stay ≡ Some equal_prices_stay_end
  pub lower_strike_covers_ends : whole_worked lower_strike_covers ≡ Some lower_strike_covers_end
  pub butterfly_by_two_sells_ends : whole_worked butterfly_by_two_sells ≡ Some butterfly_by_two_sells_end
  pub cover_too_dear_ends : whole_worked cover_too_dear ≡ Some cover_too_dear_end
  pub wide_surplus_ends : whole_worked wide_surplus ≡ Some wide_surplus_end
  pub surplus_too_wide_ends : whole_worked surplus_too_wide ≡ None
  pub out_of_order_ends : whole_worked out_of_order ≡ Some (unbounded (wholes (pos 0 ∷ pos 0 ∷ pos 1 ∷ [])) 4)
  pub as_fractions : worked out_of_order ≡ unbounded (wholes (pos 0 ∷ pos 0 ∷ pos 1 ∷ [])) 4
  pub units_end : whole_run (2 ^ 127 - 1) butterfly_by_two_sells 2 0 ≡ Some (no_unit_left 2)
