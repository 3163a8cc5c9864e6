-- The parts of the master program's steps.
use Rattle.std.specs.Prelude.{ℕ, ◌+◌, List, [], ◌∷◌, ◌++◌, length, negsuc, Result, Ok}
use Rattle.exact_num.specs.declared.misfit.Wide.{Wide}
use Rattle.exact_num.specs.Fraction.{Fraction, whole}
use Rattle.exact_num.specs.Fits.{after}
use Rattle.simplex_run.specs.Program.{LinearProgram}
use Rattle.form.specs.declared.orders.Order.{Order}
use Rattle.master_program.specs.Master.{map_steps, cost_steps}
use Rattle.master_program.specs.Laws.{unit_rows}
use Rattle.simplex.specs.Spaces.{Contents, given}

-- the costs of the orders and of the slack
abbrev pub costs_steps : ℕ → List Order → Result (List Fraction) Wide
costs_steps limit orders = after (map_steps (cost_steps limit) orders) (λ costs. Ok (costs ++ (whole (negsuc 0) ∷ [])))

-- the rows of these quantities in a program of n variables, the first of which has its 1 at place
-- i, and what stands then in a space
abbrev pub with_units : ℕ → ℕ → LinearProgram → List Fraction → LinearProgram
with_units n i p quantities =
    record p { rows = p.rows + length quantities; coefficients = p.coefficients ++ unit_rows n i (length quantities); right_sides = p.right_sides ++ quantities }

abbrev pub units_given : ℕ → ℕ → LinearProgram → Result (List Fraction) Wide → Result Contents Wide
units_given n i p quantities = after quantities (λ qs. Ok (given (with_units n i p qs)))
