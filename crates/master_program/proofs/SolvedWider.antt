-- A solve without a misfit is the same with each greater limit.
use Rattle.std.proofs.Common.{ℕ, ◌≤◌, List, refl}
use Rattle.simplex_run.specs.Ending.{done}
use Rattle.simplex_run.specs.Run.{Optimum, run, optimum}
use Rattle.simplex_run.proofs.Endings.{IsAlike, on_answer-alike, on_steps-alike}
use Rattle.simplex_run.proofs.Wider.{same_with_greater_limit as same_run}
use Rattle.form.specs.declared.orders.Order.{Order}
use Rattle.master_program.specs.Master.{zero_prices, master}
use Rattle.master_program.specs.Solve.{reading_at, on_optimum, master_run, master_solve, SolvesAreTheSame}
use Rattle.master_program.proofs.Wider.{same_with_greater_limit}

optimum_alike : (payoff_limit l l' : ℕ) (first : List ℕ) (orders : List Order) (states : List (List ℕ)) → l ≤ l' → (o : Optimum) (spent : ℕ)
    → IsAlike (on_optimum l first orders states o spent) (on_optimum l' first orders states o spent)
optimum_alike payoff_limit l l' first orders states le (optimum x y reduced value) spent =
    let o : Optimum = optimum x y reduced value in
    on_steps-alike spent (reading_at l first orders states o) (reading_at l' first orders states o) (λ r. done r spent) (λ r. done r spent)
    ((same_with_greater_limit payoff_limit l l' first orders states le).reading x y reduced value) (λ r fits. refl)

pub solves_are_the_same : SolvesAreTheSame
unfolding master_solve
solves_are_the_same payoff_limit l l' left spent n orders states le =
    let first = zero_prices n in
    on_answer-alike (master_run payoff_limit l left spent orders states) (master_run payoff_limit l' left spent orders states) (on_optimum l first orders states) (on_optimum l' first orders states)
    (on_steps-alike spent (master payoff_limit l orders states) (master payoff_limit l' orders states) (λ p. run l p left spent) (λ p. run l' p left spent)
    ((same_with_greater_limit payoff_limit l l' first orders states le).program) (λ p. same_run l l' p left spent le))
    (optimum_alike payoff_limit l l' first orders states le)
