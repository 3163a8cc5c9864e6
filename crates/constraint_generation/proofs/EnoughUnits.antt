-- As many units suffice on one underlying as there are ways to choose the basic variables.
use Rattle.std.proofs.Common.{◌≡◌, ℕ, ◌-◌, ◌<◌, List, Bool, Result, Ok, Err, refl, subst}
use Rattle.exact_num.specs.declared.misfit.Wide.{Wide as Misfit}
use Rattle.simplex_run.specs.Program.{LinearProgram}
use Rattle.simplex_run.specs.Choose.{bases_of}
use Rattle.simplex_run.specs.Ending.{Ending, done, unbounded, wide_at, no_unit_left, on_answer, on_steps, where_fits}
use Rattle.simplex_run.specs.Run.{Optimum, run}
use Rattle.simplex_run.proofs.Suffice.{units_suffice}
use Rattle.form.specs.declared.orders.Order.{Order}
use Rattle.line_cover.specs.Breakpoints.{later_states}
use Rattle.master_program.specs.Master.{zero_prices, plain_master, master}
use Rattle.master_program.specs.Reading.{Reading}
use Rattle.master_program.specs.Solve.{on_optimum, reading_at, master_run, master_solve}
use Rattle.master_program.proofs.Steps.{steps_give_master}
use Rattle.master_program.proofs.Bounded.{master_is_program}
use Rattle.constraint_generation.specs.Laws.{choices_of, UnitsSufficeOnLine}
use Rattle.constraint_generation.specs.Run.{on_line, sums_of, joint_run}

-- a whole that ends for want of a unit, where what follows its first part does not
short_after : {A B : Type 0} (e : Ending A) (next : A → ℕ → Ending B) (units : ℕ) → ((a : A) (s : ℕ) → next a s ≡ no_unit_left units → ⊥) → on_answer e next ≡ no_unit_left units → e ≡ no_unit_left units
short_after (done a s) next units never h = absurd (never a s h)
short_after (unbounded d s) next units never h = cc
short_after (wide_at s w) next units never h = cc
short_after (no_unit_left s) next units never h = cc

steps_are_free : {A B : Type 0} (spent units : ℕ) (steps : Result A Misfit) (b : A → B) → on_steps spent steps (λ a. done (b a) spent) ≡ no_unit_left units → ⊥
steps_are_free spent units (Ok a) b h = cc
steps_are_free spent units (Err w) b h = cc

-- the master program's run, once it is built
program_is_short : (limit left spent units : ℕ) (orders : List Order) (states : List (List ℕ)) (built : Result LinearProgram Misfit)
    → ((p : LinearProgram) → built ≡ Ok p → p ≡ plain_master (zero_prices 1) orders states)
    → on_steps spent built (λ program. run limit program left spent) ≡ no_unit_left units → left < bases_of (plain_master (zero_prices 1) orders states)
program_is_short limit left spent units orders states (Ok p) is h =
    let plain = plain_master (zero_prices 1) orders states in
    units_suffice limit plain left spent units (master_is_program (zero_prices 1) orders states)
    (subst (λ (q : LinearProgram). run limit q left spent ≡ no_unit_left units) (is p refl) h)
program_is_short limit left spent units orders states (Err w) is h = cc

on_optimum-free : (limit : ℕ) (first : List ℕ) (orders : List Order) (states : List (List ℕ)) (o : Optimum) (spent units : ℕ) → on_optimum limit first orders states o spent ≡ no_unit_left units → ⊥
on_optimum-free limit first orders states o spent units h = steps_are_free spent units (reading_at limit first orders states o) (λ (r : Reading). r) h

solve_is_short : (payoff_limit limit left spent units : ℕ) (orders : List Order) → master_solve payoff_limit limit left spent 1 orders (later_states orders) ≡ no_unit_left units → left < choices_of orders
unfolding master_solve
solve_is_short payoff_limit limit left spent units orders h =
    let states = later_states orders in
    let first = zero_prices 1 in
    let ended = short_after (master_run payoff_limit limit left spent orders states) (on_optimum limit first orders states) units (λ o s. on_optimum-free limit first orders states o s units) h in
    program_is_short limit left spent units orders states (master payoff_limit limit orders states) (λ p is. steps_give_master payoff_limit limit 1 orders states p is) ended

on_line-free : (r : Reading) (spent units : ℕ) → on_line r spent ≡ no_unit_left units → ⊥
on_line-free r spent units h = cc

pub units_suffice_on_line : UnitsSufficeOnLine
unfolding joint_run
units_suffice_on_line limits spent units orders h =
    let solve = master_solve limits.payoff_limit limits.limit (limits.budget - spent) spent 1 orders (later_states orders) in
    let sums = sums_of limits.payoff_limit 1 orders in
    let before = short_after (on_answer solve on_line) (where_fits sums) units (λ s u. steps_are_free u units (sums s) (λ (b : Bool). s)) h in
    solve_is_short limits.payoff_limit limits.limit (limits.budget - spent) spent units orders
    (short_after solve on_line units (λ r s. on_line-free r s units) before)
