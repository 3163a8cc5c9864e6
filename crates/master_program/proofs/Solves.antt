-- What a solve of the master program ends with.
use Rattle.std.proofs.Common.{◌≡◌, ℕ, List, ◌∷◌, All, subst}
use Rattle.std.specs.Prelude.{Ok}
use Rattle.simplex_run.specs.Program.{LinearProgram}
use Rattle.simplex_run.specs.Ending.{done}
use Rattle.simplex_run.specs.Run.{Optimum, run, optimum}
use Rattle.simplex_run.proofs.Endings.{EndsWith, ends_with, on_answer-ends, on_steps-ends}
use Rattle.form.specs.declared.orders.Order.{Order}
use Rattle.form.specs.Vector.{IsState}
use Rattle.cert_check.specs.Breakpoints.{later_states}
use Rattle.master_program.specs.Master.{zero_prices, master}
use Rattle.master_program.specs.Reading.{Reading}
use Rattle.master_program.specs.Solve.{reading_at, on_optimum, master_run, master_solve}
use Rattle.master_program.specs.Certified.{IsCertifiedAt}
use Rattle.master_program.specs.OptimumLaws.{SolvesAreCertified, LineSolvesAreGreatest, NoSolveRises}
use Rattle.master_program.proofs.Read.{runs_are_certified, no_run_is_unbounded}
use Rattle.master_program.proofs.Lines.{later_are_states, greatest_by_line}

-- it ends with what is certified at its states, or with no answer
abbrev IsCertifiedEnd : ℕ → List Order → List (List ℕ) → Reading → ℕ → Type 0
IsCertifiedEnd n orders states r units = IsCertifiedAt n orders (zero_prices n ∷ states) r

-- an optimum of the run of the program that is built
record IsEndOf (payoff_limit limit left spent : ℕ) (orders : List Order) (states : List (List ℕ)) (o : Optimum) (units : ℕ) : Type 0 where
  program : LinearProgram
  built : master payoff_limit limit orders states ≡ Ok program
  ends : run limit program left spent ≡ done o units

run_ends : (payoff_limit limit left spent : ℕ) (orders : List Order) (states : List (List ℕ)) → EndsWith (IsEndOf payoff_limit limit left spent orders states) (master_run payoff_limit limit left spent orders states)
run_ends payoff_limit limit left spent orders states =
    let Is = IsEndOf payoff_limit limit left spent orders states in
    on_steps-ends Is spent (master payoff_limit limit orders states) (λ p. run limit p left spent)
    (λ p built. ends_with Is (run limit p left spent) (λ o units is. record { program = p; built = built; ends = is }) (λ d units is. no_run_is_unbounded payoff_limit limit left spent units orders states p d built is))

read_certified : (payoff_limit limit left spent n : ℕ) (orders : List Order) (states : List (List ℕ)) → All (IsState n) states
    → (o : Optimum) (units : ℕ) → IsEndOf payoff_limit limit left spent orders states o units → EndsWith (IsCertifiedEnd n orders states) (on_optimum limit (zero_prices n) orders states o units)
read_certified payoff_limit limit left spent n orders states are (optimum x y reduced value) units is =
    on_steps-ends (IsCertifiedEnd n orders states) units (reading_at limit (zero_prices n) orders states (optimum x y reduced value)) (λ r. done r units)
    (λ r read. runs_are_certified payoff_limit limit n left spent units orders states is.program x y reduced value r are is.built is.ends read)

solve_ends : (payoff_limit limit left spent n : ℕ) (orders : List Order) (states : List (List ℕ)) → All (IsState n) states → EndsWith (IsCertifiedEnd n orders states) (master_solve payoff_limit limit left spent n orders states)
unfolding master_solve
solve_ends payoff_limit limit left spent n orders states are =
    on_answer-ends (IsEndOf payoff_limit limit left spent orders states) (IsCertifiedEnd n orders states) (master_run payoff_limit limit left spent orders states) (on_optimum limit (zero_prices n) orders states)
    (run_ends payoff_limit limit left spent orders states) (read_certified payoff_limit limit left spent n orders states are)

pub solves_are_certified : SolvesAreCertified
solves_are_certified payoff_limit limit left spent n units orders states r are h =
    subst (EndsWith (IsCertifiedEnd n orders states)) h (solve_ends payoff_limit limit left spent n orders states are)

pub line_solves_are_greatest : LineSolvesAreGreatest
line_solves_are_greatest payoff_limit limit left spent units orders r h =
    greatest_by_line orders r (solves_are_certified payoff_limit limit left spent 1 units orders (later_states orders) r (later_are_states orders) h)

-- ---- no solve rises, whatever its states are
abbrev IsSome : Reading → ℕ → Type 0
IsSome r units = Unit {0}

pub no_solve_rises : NoSolveRises
unfolding master_solve
no_solve_rises payoff_limit limit left spent n units orders states d h =
    subst (EndsWith IsSome) h
    (on_answer-ends (IsEndOf payoff_limit limit left spent orders states) IsSome (master_run payoff_limit limit left spent orders states) (on_optimum limit (zero_prices n) orders states)
    (run_ends payoff_limit limit left spent orders states)
    (λ o units is. on_steps-ends IsSome units (reading_at limit (zero_prices n) orders states o) (λ r. done r units) (λ r read. tt)))
