-- Worked programs, and how their runs end. The definitions compute each of them.
use Rattle.std.specs.Prelude.{◌≡◌, ℕ, ◌^◌, ◌-◌, List, [], ◌∷◌, length, map, ℤ, pos, negsuc}
use Rattle.exact_num.specs.Limit.{limit as largest}
use Rattle.std.specs.List.{flat_map}
use Rattle.exact_num.specs.declared.misfit.Operator.TheVariants.{Add}
use Rattle.exact_num.specs.Fraction.{Fraction, whole, over}
use Rattle.exact_num.specs.Fits.{misfit}
use Rattle.simplex_run.specs.Program.{LinearProgram}
use Rattle.simplex_run.specs.Ending.{Ending, done, unbounded, wide_at, no_unit_left}
use Rattle.simplex_run.specs.Run.{Optimum, run, optimum}

-- one row of a program in whole numbers: the coefficients and the right side
pub record Constraint : Type 0 where
  pub coefficients : List ℤ
  pub right_side : ℤ

abbrev pub at_most : List ℤ → ℤ → Constraint
at_most coefficients right_side = record { coefficients = coefficients; right_side = right_side }

abbrev pub program_of : List ℤ → List Constraint → LinearProgram
program_of costs rows =
    record {
      variables = length costs;
      rows = length rows;
      coefficients = flat_map (λ (r : Constraint). map whole r.coefficients) rows;
      right_sides = map (λ (r : Constraint). whole r.right_side) rows;
      costs = map whole costs;
    }

abbrev pub minus : ℕ → ℤ
minus n = negsuc (n - 1)

abbrev pub wholes : List ℤ → List Fraction
wholes ns = map whole ns

-- the run with 127 bits and 20,000 units
abbrev pub worked : LinearProgram → Ending Optimum
worked p = run largest p 20000 0

-- ---- the solver alone
-- x under 2^126 x <= 1 and x <= 1 / (2^126 - 1)
abbrev pub too_wide : LinearProgram
too_wide =
    record {
      variables = 1;
      rows = 2;
      coefficients = wholes (pos (2 ^ 126) ∷ pos 1 ∷ []);
      right_sides = whole (pos 1) ∷ over (pos 1) (2 ^ 126 - 1) ∷ [];
      costs = wholes (pos 1 ∷ []);
    }

abbrev pub too_wide_end : Ending Optimum
too_wide_end = wide_at 1 (misfit Add (over (pos 1) (2 ^ 126 - 1)) (over (minus 1) (2 ^ 126)))

-- x under -x <= 0
abbrev pub without_end : LinearProgram
without_end = program_of (pos 1 ∷ []) (at_most (minus 1 ∷ []) (pos 0) ∷ [])

abbrev pub without_end_end : Ending Optimum
without_end_end = unbounded (wholes (pos 1 ∷ [])) 1

-- ---- master programs of batches of call options: a variable for each order's fill and one for the
-- liability at price 0; a row for each order's quantity and one for each later price where the
-- payoffs bend, the slope beyond the last at the end
-- buy call 10 at 7, sell call 10 at 5
abbrev pub one_option_matched : LinearProgram
one_option_matched =
    program_of (pos 7 ∷ minus 5 ∷ minus 1 ∷ [])
    (at_most (pos 1 ∷ pos 0 ∷ pos 0 ∷ []) (pos 1)
    ∷ at_most (pos 0 ∷ pos 1 ∷ pos 0 ∷ []) (pos 1)
    ∷ at_most (pos 0 ∷ pos 0 ∷ minus 1 ∷ []) (pos 0)
    ∷ at_most (pos 1 ∷ minus 1 ∷ pos 0 ∷ []) (pos 0)
    ∷ [])

abbrev pub one_option_matched_end : Ending Optimum
one_option_matched_end = done (optimum (wholes (pos 1 ∷ pos 1 ∷ pos 0 ∷ [])) (wholes (pos 2 ∷ pos 0 ∷ pos 0 ∷ pos 5 ∷ [])) (wholes (pos 0 ∷ pos 0 ∷ pos 1 ∷ [])) (whole (pos 2))) 2

-- no order
abbrev pub empty_batch : LinearProgram
empty_batch =
    program_of (minus 1 ∷ [])
    (at_most (pos 0 ∷ []) (pos 0) ∷ [])

abbrev pub empty_batch_end : Ending Optimum
empty_batch_end = done (optimum (wholes (pos 0 ∷ [])) (wholes (pos 0 ∷ [])) (wholes (pos 1 ∷ [])) (whole (pos 0))) 0

-- buy call 10 at 5, sell call 10 at 5
abbrev pub equal_prices_stay : LinearProgram
equal_prices_stay =
    program_of (pos 5 ∷ minus 5 ∷ minus 1 ∷ [])
    (at_most (pos 1 ∷ pos 0 ∷ pos 0 ∷ []) (pos 1)
    ∷ at_most (pos 0 ∷ pos 1 ∷ pos 0 ∷ []) (pos 1)
    ∷ at_most (pos 0 ∷ pos 0 ∷ minus 1 ∷ []) (pos 0)
    ∷ at_most (pos 1 ∷ minus 1 ∷ pos 0 ∷ []) (pos 0)
    ∷ [])

abbrev pub equal_prices_stay_end : Ending Optimum
equal_prices_stay_end = done (optimum (wholes (pos 0 ∷ pos 0 ∷ pos 0 ∷ [])) (wholes (pos 0 ∷ pos 0 ∷ pos 0 ∷ pos 5 ∷ [])) (wholes (pos 0 ∷ pos 0 ∷ pos 1 ∷ [])) (whole (pos 0))) 1

-- buy call 10 at 6, sell call 5 at 5
abbrev pub lower_strike_covers : LinearProgram
lower_strike_covers =
    program_of (pos 6 ∷ minus 5 ∷ minus 1 ∷ [])
    (at_most (pos 1 ∷ pos 0 ∷ pos 0 ∷ []) (pos 1)
    ∷ at_most (pos 0 ∷ pos 1 ∷ pos 0 ∷ []) (pos 1)
    ∷ at_most (pos 0 ∷ pos 0 ∷ minus 1 ∷ []) (pos 0)
    ∷ at_most (pos 0 ∷ minus 5 ∷ minus 1 ∷ []) (pos 0)
    ∷ at_most (pos 1 ∷ minus 1 ∷ pos 0 ∷ []) (pos 0)
    ∷ [])

abbrev pub lower_strike_covers_end : Ending Optimum
lower_strike_covers_end = done (optimum (wholes (pos 1 ∷ pos 1 ∷ pos 0 ∷ [])) (wholes (pos 1 ∷ pos 0 ∷ pos 0 ∷ pos 0 ∷ pos 5 ∷ [])) (wholes (pos 0 ∷ pos 0 ∷ pos 1 ∷ [])) (whole (pos 1))) 2

-- buy call 10 at 6, sell call 5 at 8, sell call 12 at 4
abbrev pub butterfly_by_two_sells : LinearProgram
butterfly_by_two_sells =
    program_of (pos 6 ∷ minus 8 ∷ minus 4 ∷ minus 1 ∷ [])
    (at_most (pos 1 ∷ pos 0 ∷ pos 0 ∷ pos 0 ∷ []) (pos 1)
    ∷ at_most (pos 0 ∷ pos 1 ∷ pos 0 ∷ pos 0 ∷ []) (pos 1)
    ∷ at_most (pos 0 ∷ pos 0 ∷ pos 1 ∷ pos 0 ∷ []) (pos 1)
    ∷ at_most (pos 0 ∷ pos 0 ∷ pos 0 ∷ minus 1 ∷ []) (pos 0)
    ∷ at_most (pos 0 ∷ minus 5 ∷ pos 0 ∷ minus 1 ∷ []) (pos 0)
    ∷ at_most (pos 2 ∷ minus 7 ∷ pos 0 ∷ minus 1 ∷ []) (pos 0)
    ∷ at_most (pos 1 ∷ minus 1 ∷ minus 1 ∷ pos 0 ∷ []) (pos 0)
    ∷ [])

abbrev pub butterfly_by_two_sells_end : Ending Optimum
butterfly_by_two_sells_end = done (optimum (whole (pos 1) ∷ over (pos 2) 7 ∷ over (pos 5) 7 ∷ whole (pos 0) ∷ []) (over (pos 6) 7 ∷ whole (pos 0) ∷ whole (pos 0) ∷ whole (pos 0) ∷ whole (pos 0) ∷ over (pos 4) 7 ∷ whole (pos 4) ∷ []) (whole (pos 0) ∷ whole (pos 0) ∷ whole (pos 0) ∷ over (pos 3) 7 ∷ []) (over (pos 6) 7)) 3

-- buy call 10 at 6, sell call 12 at 4
abbrev pub cover_too_dear : LinearProgram
cover_too_dear =
    program_of (pos 6 ∷ minus 4 ∷ minus 1 ∷ [])
    (at_most (pos 1 ∷ pos 0 ∷ pos 0 ∷ []) (pos 1)
    ∷ at_most (pos 0 ∷ pos 1 ∷ pos 0 ∷ []) (pos 1)
    ∷ at_most (pos 0 ∷ pos 0 ∷ minus 1 ∷ []) (pos 0)
    ∷ at_most (pos 2 ∷ pos 0 ∷ minus 1 ∷ []) (pos 0)
    ∷ at_most (pos 1 ∷ minus 1 ∷ pos 0 ∷ []) (pos 0)
    ∷ [])

abbrev pub cover_too_dear_end : Ending Optimum
cover_too_dear_end = done (optimum (wholes (pos 0 ∷ pos 0 ∷ pos 0 ∷ [])) (wholes (pos 0 ∷ pos 0 ∷ pos 0 ∷ pos 1 ∷ pos 4 ∷ [])) (wholes (pos 0 ∷ pos 0 ∷ pos 0 ∷ [])) (whole (pos 0))) 2

-- buy call 500001 at 400000000 and call 899999999 at 200000; sell call 0 on 1000 units at
-- 1501501501, call 1000000000 on 999 units at 1000000000 and call 999999999 at 0
abbrev pub surplus_too_wide : LinearProgram
surplus_too_wide =
    program_of (pos 400000000 ∷ pos 200000 ∷ minus 1501501501 ∷ minus 1000000000 ∷ pos 0 ∷ minus 1 ∷ [])
    (at_most (pos 1 ∷ pos 0 ∷ pos 0 ∷ pos 0 ∷ pos 0 ∷ pos 0 ∷ []) (pos 999999)
    ∷ at_most (pos 0 ∷ pos 1 ∷ pos 0 ∷ pos 0 ∷ pos 0 ∷ pos 0 ∷ []) (pos 1)
    ∷ at_most (pos 0 ∷ pos 0 ∷ pos 1 ∷ pos 0 ∷ pos 0 ∷ pos 0 ∷ []) (pos 1000000)
    ∷ at_most (pos 0 ∷ pos 0 ∷ pos 0 ∷ pos 1 ∷ pos 0 ∷ pos 0 ∷ []) (pos 1000000)
    ∷ at_most (pos 0 ∷ pos 0 ∷ pos 0 ∷ pos 0 ∷ pos 1 ∷ pos 0 ∷ []) (pos 1000000)
    ∷ at_most (pos 0 ∷ pos 0 ∷ minus 500001000 ∷ pos 0 ∷ pos 0 ∷ minus 1 ∷ []) (pos 0)
    ∷ at_most (pos 500499001 ∷ pos 0 ∷ minus 1000000000000 ∷ pos 0 ∷ pos 0 ∷ minus 999 ∷ []) (pos 0)
    ∷ at_most (pos 899499998 ∷ pos 0 ∷ minus 899999999000 ∷ minus 898099999001 ∷ pos 0 ∷ minus 1 ∷ []) (pos 0)
    ∷ at_most (pos 999499998 ∷ pos 100000000 ∷ minus 999999999000 ∷ minus 997999999001 ∷ pos 0 ∷ minus 1 ∷ []) (pos 0)
    ∷ at_most (pos 1 ∷ pos 1 ∷ minus 1000 ∷ minus 999 ∷ minus 1 ∷ pos 0 ∷ []) (pos 0)
    ∷ [])

abbrev pub surplus_too_wide_end : Ending Optimum
surplus_too_wide_end = wide_at 6 (misfit Add (over (pos 398748100250250500749500501) 1000000000000) (over (pos 99599999800200000) 997999999001))

-- ---- how they end
-- a run within a limit and a number of units ends so, with 127 bits and 20,000 units; and with 2
-- units, for want of a third
pub record EndAsWorked (run : ℕ → LinearProgram → ℕ → ℕ → Ending Optimum) : Type 0 where
  pub too_wide_ends : run largest too_wide 20000 0 ≡ too_wide_end
  pub without_end_ends : run largest without_end 20000 0 ≡ without_end_end
  pub one_option_matched_ends : run largest one_option_matched 20000 0 ≡ one_option_matched_end
  pub empty_batch_ends : run largest empty_batch 20000 0 ≡ empty_batch_end
  pub equal_prices_stay_ends : run largest equal_prices_stay 20000 0 ≡ equal_prices_stay_end
  pub lower_strike_covers_ends : run largest lower_strike_covers 20000 0 ≡ lower_strike_covers_end
  pub butterfly_by_two_sells_ends : run largest butterfly_by_two_sells 20000 0 ≡ butterfly_by_two_sells_end
  pub cover_too_dear_ends : run largest cover_too_dear 20000 0 ≡ cover_too_dear_end
  pub surplus_too_wide_ends : run largest surplus_too_wide 20000 0 ≡ surplus_too_wide_end
  pub units_end : run largest butterfly_by_two_sells 2 0 ≡ no_unit_left 2

abbrev pub WorkedProgramsEnd : Type 0
WorkedProgramsEnd = EndAsWorked run
