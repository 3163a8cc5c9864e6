-- The numbers that are read off the optimum of a master program are in lowest terms.
use Rattle.std.proofs.Common.{◌≡◌, ℕ, List, length, take, drop, zip, subst, ◌∙◌}
use Rattle.std.specs.Prelude.{Ok}
use Rattle.std.specs.List.{All}
use Rattle.std.proofs.lemmas.List.Elements.{All-cons, All-take, All-drop, All-from_get_or}
use Rattle.arithmetic.proofs.Lists.{All-zip_right}
use Rattle.exact_num.specs.Fraction.{Fraction, IsLowest}
use Rattle.exact_num.proofs.After.{after_value}
use Rattle.simplex_run.specs.Places.{at, fraction_zero}
use Rattle.simplex_run.specs.Program.{LinearProgram}
use Rattle.simplex_run.specs.Ending.{done}
use Rattle.simplex_run.specs.Run.{Optimum, optimum, run}
use Rattle.simplex_run.specs.Optimum.{IsOptimum, IsAsSaid}
use Rattle.simplex_run.proofs.Endings.{on_answer-done, on_steps-done}
use Rattle.form.specs.declared.orders.Order.{Order}
use Rattle.clearing_model.specs.Certificate.{Point}
use Rattle.master_program.specs.Master.{zero_prices, plain_master, master}
use Rattle.master_program.specs.Reading.{Reading, reading_with, liability_of, points_with_weight, points_of}
use Rattle.master_program.specs.Solve.{reading_at, on_optimum, master_run, master_solve}
use Rattle.master_program.specs.Lowest.{OfEachNumber, SolvesAreLowest}
use Rattle.master_program.proofs.Dropped.{kept}
use Rattle.master_program.proofs.Liability.{liability_is_read}
use Rattle.master_program.proofs.Read.{run_is_as_said}

abbrev OfWeight : (Fraction → Type 0) → Point → Type 0
OfWeight P point = P point.1

-- a solve that is done, with the optimum that it was read off
record IsReadOff (payoff_limit limit left spent n : ℕ) (orders : List Order) (states : List (List ℕ)) (r : Reading) : Type 0 where
  program : LinearProgram
  built : master payoff_limit limit orders states ≡ Ok program
  x : List Fraction
  y : List Fraction
  reduced : List Fraction
  value : Fraction
  units : ℕ
  ends : run limit program left spent ≡ done (optimum x y reduced value) units
  liability : Fraction
  adds_up : liability_of limit orders (take (length orders) x) (at x (length orders)) ≡ Ok liability
  is : reading_with (take (length orders) x) value (points_with_weight (points_of (length orders) (zero_prices n) states y reduced)) liability ≡ r

read_off : (payoff_limit limit left spent n units : ℕ) (orders : List Order) (states : List (List ℕ)) (r : Reading)
    → master_solve payoff_limit limit left spent n orders states ≡ done r units → IsReadOff payoff_limit limit left spent n orders states r
unfolding master_solve
read_off payoff_limit limit left spent n units orders states r h =
    let whole = on_answer-done (master_run payoff_limit limit left spent orders states) (on_optimum limit (zero_prices n) orders states) r units h in
    let run_of = on_steps-done spent (master payoff_limit limit orders states) (λ p. run limit p left spent) whole.answer whole.spent whole.first in
    by run_of.value run_of.first whole.answer whole.spent run_of.rest whole.rest
  where
    same : (q : Reading) (s u : ℕ) → done q s ≡ done r u → q ≡ r
    same q s u e = cc

    by : (p : LinearProgram) → master payoff_limit limit orders states ≡ Ok p → (o : Optimum) (at_unit : ℕ) → run limit p left spent ≡ done o at_unit
        → on_optimum limit (zero_prices n) orders states o at_unit ≡ done r units → IsReadOff payoff_limit limit left spent n orders states r
    by p built (optimum x y reduced value) at_unit ends rest =
        let k = length orders in
        let read = on_steps-done at_unit (reading_at limit (zero_prices n) orders states (optimum x y reduced value)) (λ q. done q at_unit) r units rest in
        let step = after_value (liability_of limit orders (take k x) (at x k)) (λ L. Ok (reading_with (take k x) value (points_with_weight (points_of k (zero_prices n) states y reduced)) L)) read.value read.first in
        let here : reading_with (take k x) value (points_with_weight (points_of k (zero_prices n) states y reduced)) step.value ≡ read.value = let e = step.rest in cc in
        record {
          program = p;
          built = built;
          x = x;
          y = y;
          reduced = reduced;
          value = value;
          units = at_unit;
          ends = ends;
          liability = step.value;
          adds_up = step.first;
          is = here ∙ same read.value at_unit units read.rest;
        }

-- what is so of each number of the optimum and of the liability is so of each number of the reading
each_number : (P : Fraction → Type 0) (payoff_limit limit left spent n : ℕ) (orders : List Order) (states : List (List ℕ)) (r : Reading) (o : IsReadOff payoff_limit limit left spent n orders states r)
    → All P o.x → All P o.y → P (at o.reduced (length orders)) → P o.value → P o.liability → OfEachNumber P r
each_number P payoff_limit limit left spent n orders states r o of_x of_y of_first of_value of_liability =
    let k = length orders in
    let later = All-zip_right P states (drop k o.y) (All-drop P k o.y of_y) in
    subst (OfEachNumber P) o.is (record {
      fills = All-take P k o.x of_x;
      liability = of_liability;
      surplus = of_value;
      weights = kept (OfWeight P) (points_of k (zero_prices n) states o.y o.reduced) (All-cons (OfWeight P) (zero_prices n, at o.reduced k) (zip states (drop k o.y)) of_first later);
    })

pub solves_are_lowest : SolvesAreLowest
solves_are_lowest payoff_limit limit left spent n units orders states r h =
    let o = read_off payoff_limit limit left spent n units orders states r h in
    let said : IsOptimum (plain_master (zero_prices n) orders states) o.x o.y o.reduced o.value =
    subst (IsAsSaid (plain_master (zero_prices n) orders states)) o.ends (run_is_as_said payoff_limit limit n left spent orders states o.program o.built) in
    let of_x = All-from_get_or IsLowest o.x fraction_zero (λ j inside. said.x_sign.lowest j) in
    let of_y = All-from_get_or IsLowest o.y fraction_zero (λ j inside. said.y_sign.lowest j) in
    let L = liability_is_read limit n orders (take (length orders) o.x) (at o.x (length orders)) o.liability (All-take IsLowest (length orders) o.x of_x) (said.x_sign.lowest (length orders)) o.adds_up in
    each_number IsLowest payoff_limit limit left spent n orders states r o of_x of_y (said.reduced_sign.lowest (length orders)) said.value_lowest L.lowest
