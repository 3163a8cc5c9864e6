-- What is read off an optimum of the master program.
use Rattle.std.specs.Prelude.{ℕ, List, [], ◌∷◌, length, take, drop, if◌then◌else◌, Bool, Result, Ok}
use Rattle.std.specs.List.{zip}
use Rattle.exact_num.specs.declared.misfit.Wide.{Wide}
use Rattle.exact_num.specs.Fraction.{Fraction}
use Rattle.exact_num.specs.Fits.{add_of, whole_of, after}
use Rattle.simplex_run.specs.Places.{at, fraction_zero}
use Rattle.exact_num.specs.Tests.{is_above_zero}
use Rattle.form.specs.declared.orders.Order.{Order}
use Rattle.exact_num.specs.Steps.{fold_steps, plus_product}
use Rattle.clearing_model.specs.Certificate.{Point}
use Rattle.master_program.specs.Master.{payoff_at_zero, signed_for}

-- the fills with what they owe and earn, and the states that show it, with their weights
pub record Reading : Type 0 where
  pub fills : List Fraction
  pub liability : Fraction
  pub surplus : Fraction
  pub measure : List Point

-- ---- the liability, each step within the limit
-- the total and what the fill of an order owes at the first state
unfoldable pub add_owed : ℕ → Fraction → Order × Fraction → Result Fraction Wide
add_owed limit total fill =
    after (whole_of limit (payoff_at_zero fill.0)) (λ first. plus_product limit total fill.1 (signed_for fill.0.side first))

-- what the fills owe at the first state, order by order
abbrev pub owed_of : ℕ → List (Order × Fraction) → Result Fraction Wide
owed_of limit fills = fold_steps (add_owed limit) fraction_zero fills

-- that, and the slack last
unfoldable pub liability_of : ℕ → List Order → List Fraction → Fraction → Result Fraction Wide
liability_of limit orders fills slack =
    after (owed_of limit (zip orders fills)) (λ owed. add_of limit owed slack)

-- ---- the measure
abbrev pub has_weight : Point → Bool
has_weight point = is_above_zero point.1

-- the points of weight above 0, in order
abbrev pub points_with_weight : List Point → List Point
points_with_weight [] = []
points_with_weight (point ∷ points) = if has_weight point then point ∷ points_with_weight points else points_with_weight points

-- the weight of the first state is the reduced cost of the slack, the variable after k fills; that
-- of another is the dual value of its row, which stands after the k rows of quantities
abbrev pub points_of : ℕ → List ℕ → List (List ℕ) → (y reduced : List Fraction) → List Point
points_of k first states y reduced = (first, at reduced k) ∷ zip states (drop k y)

-- ---- the whole
abbrev pub reading_with : (fills : List Fraction) → Fraction → (measure : List Point) → Fraction → Reading
reading_with fills surplus measure liability =
    record { fills = fills; liability = liability; surplus = surplus; measure = measure }

-- the reading of the optimum x with its dual y, its reduced costs and its value, over a first state
-- and later ones
abbrev pub reading_of : ℕ → List ℕ → List Order → List (List ℕ) → (x y reduced : List Fraction) → Fraction → Result Reading Wide
reading_of limit first orders states x y reduced value =
    let k = length orders in
    let fills = take k x in
    after (liability_of limit orders fills (at x k))
    (λ liability. Ok (reading_with fills value (points_with_weight (points_of k first states y reduced)) liability))

-- opens these definitions, for a proof that computes with numerals
unfoldable pub reading_steps : Unit {0}
unfolding add_owed liability_of
reading_steps = tt
