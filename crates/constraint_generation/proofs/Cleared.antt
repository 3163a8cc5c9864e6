-- What the run on one underlying clears.
use Rattle.std.proofs.Common.{◌≡◌, ℕ, List, Bool, sym, subst}
use Rattle.exact_num.specs.Fraction.{Fraction}
use Rattle.frac.specs.Range.{limit}
use Rattle.simplex_run.specs.Ending.{done, unbounded}
use Rattle.simplex_run.proofs.Endings.{DoneWhereFits, EndsWith, ends_with, where_fits-done, where_fits-ends}
use Rattle.form.specs.declared.orders.Order.{Order}
use Rattle.form.specs.declared.orders.Batch.{Batch}
use Rattle.clearing_model.specs.Clearing.{AreOn}
use Rattle.line_cover.specs.Breakpoints.{later_states}
use Rattle.cert_check.specs.declared.outcome.Cover.TheVariants.{Line}
use Rattle.master_program.specs.Reading.{Reading}
use Rattle.master_program.specs.Solve.{master_solve}
use Rattle.master_program.specs.Certified.{IsGreatestByLine}
use Rattle.master_program.proofs.Solves.{line_solves_are_greatest, no_solve_rises}
use Rattle.master_program.proofs.Verdict.{line_readings_are_not_refused}
use Rattle.master_program.proofs.VerdictSums.{sums_that_fit_pass}
use Rattle.constraint_generation.specs.Laws.{IsYesWith}
use Rattle.constraint_generation.specs.Run.{sums_hold, line_run}

-- the solve that a run clears, and the sums that fit
pub cleared_by : (wide_limit limit left spent units : ℕ) (orders : List Order) (r : Reading) → line_run wide_limit limit left spent orders ≡ done r units
    → DoneWhereFits Reading Bool (master_solve wide_limit limit left spent 1 orders (later_states orders)) (sums_hold wide_limit orders) r
unfolding line_run
cleared_by wide_limit limit left spent units orders r e =
    where_fits-done (master_solve wide_limit limit left spent 1 orders (later_states orders)) (sums_hold wide_limit orders) r units e

pub line_run_is_greatest : (wide_limit limit left spent units : ℕ) (orders : List Order) (r : Reading) → line_run wide_limit limit left spent orders ≡ done r units → IsGreatestByLine orders r
line_run_is_greatest wide_limit limit left spent units orders r e =
    let c = cleared_by wide_limit limit left spent units orders r e in
    line_solves_are_greatest wide_limit limit left spent c.spent orders r c.first

abbrev IsSome : Reading → ℕ → Type 0
IsSome r units = Unit {0}

pub line_run_ends : (wide_limit limit left spent units : ℕ) (orders : List Order) (d : List Fraction) → line_run wide_limit limit left spent orders ≡ unbounded d units → ⊥
unfolding line_run
line_run_ends wide_limit limit left spent units orders d e =
    let solve = master_solve wide_limit limit left spent 1 orders (later_states orders) in
    subst (EndsWith IsSome) e
    (where_fits-ends IsSome solve (sums_hold wide_limit orders)
    (ends_with IsSome solve (λ r units is. tt) (λ d units is. no_solve_rises wide_limit limit left spent 1 units orders (later_states orders) d is)))

pub line_run_passes : (numbers left spent units : ℕ) (batch : Batch) (r : Reading) → batch.underlyings ≡ 1 → AreOn 1 batch.orders
    → line_run limit numbers left spent batch.orders ≡ done r units → IsYesWith batch r Line
line_run_passes numbers left spent units batch r one on e outcome measure is =
    let c = cleared_by limit numbers left spent units batch.orders r e in
    let greatest = line_solves_are_greatest limit numbers left spent c.spent batch.orders r c.first in
    let not_refused = line_readings_are_not_refused batch outcome measure r one (subst (λ (n : ℕ). AreOn n batch.orders) (sym one) on) greatest is in
    sums_that_fit_pass batch outcome Line measure r c.value is not_refused c.fits
