-- The numbers that are read off the optimum of a master program.
use Rattle.std.specs.Prelude.{ℕ, ◌≡◌, List}
use Rattle.std.specs.List.{All}
use Rattle.exact_num.specs.Fraction.{Fraction, IsLowest}
use Rattle.simplex_run.specs.Ending.{done}
use Rattle.form.specs.declared.orders.Order.{Order}
use Rattle.clearing_model.specs.Certificate.{Point}
use Rattle.master_program.specs.Reading.{Reading}
use Rattle.master_program.specs.Solve.{master_solve}

-- a fact of each number of a reading
pub record OfEachNumber (P : Fraction → Type 0) (r : Reading) : Type 0 where
  pub fills : All P r.fills
  pub liability : P r.liability
  pub surplus : P r.surplus
  pub weights : All (λ (point : Point). P point.1) r.measure

-- what a solve reads off is in lowest terms, whatever the limit
abbrev pub SolvesAreLowest : Type 0
SolvesAreLowest =
    (payoff_limit limit left spent n units : ℕ) (orders : List Order) (states : List (List ℕ)) (r : Reading)
    → master_solve payoff_limit limit left spent n orders states ≡ done r units → OfEachNumber IsLowest r
