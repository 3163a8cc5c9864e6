-- The solve of a master program, with units of work: it is built, run, and read off.
use Rattle.std.specs.Prelude.{ℕ, ◌≡◌, ◌≤◌, List, Result}
use Rattle.exact_num.specs.declared.misfit.Wide.{Wide}
use Rattle.simplex_run.specs.Ending.{Ending, done, on_answer, on_steps, HasNoMisfit}
use Rattle.simplex_run.specs.Run.{Optimum, run, optimum}
use Rattle.form.specs.declared.orders.Order.{Order}
use Rattle.master_program.specs.Master.{zero_prices, master}
use Rattle.master_program.specs.Reading.{Reading, reading_of}

-- what is read off an optimum
abbrev pub reading_at : ℕ → List ℕ → List Order → List (List ℕ) → Optimum → Result Reading Wide
reading_at limit first orders states (optimum x y reduced value) = reading_of limit first orders states x y reduced value

abbrev pub on_optimum : ℕ → List ℕ → List Order → List (List ℕ) → Optimum → ℕ → Ending Reading
on_optimum limit first orders states o spent = on_steps spent (reading_at limit first orders states o) (λ reading. done reading spent)

-- the program is built and run, with `left` units left and `spent` units spent before
abbrev pub master_run : (payoff_limit limit left spent : ℕ) → List Order → List (List ℕ) → Ending Optimum
master_run payoff_limit limit left spent orders states =
    on_steps spent (master payoff_limit limit orders states) (λ program. run limit program left spent)

-- the solve over the state of n underlyings where all prices are 0 and later states
unfoldable pub master_solve : (payoff_limit limit left spent n : ℕ) → List Order → List (List ℕ) → Ending Reading
master_solve payoff_limit limit left spent n orders states =
    on_answer (master_run payoff_limit limit left spent orders states) (on_optimum limit (zero_prices n) orders states)

-- a solve without a misfit is the same with each greater limit
abbrev pub SolvesAreTheSame : Type 0
SolvesAreTheSame =
    (payoff_limit l l' left spent n : ℕ) (orders : List Order) (states : List (List ℕ)) → l ≤ l'
    → HasNoMisfit (master_solve payoff_limit l left spent n orders states)
    → master_solve payoff_limit l' left spent n orders states ≡ master_solve payoff_limit l left spent n orders states

-- opens these definitions, for a proof that computes with numerals
unfoldable pub solve_steps : Unit {0}
unfolding master_solve
solve_steps = tt
