-- What an optimum of the master program shows of a batch.
use Rattle.std.specs.Prelude.{ℕ, ◌≡◌, List, [], ◌∷◌, ◌++◌, length, pos, ◌-ℤ◌, ◌*ℤ◌, ◌≤ℤ◌}
use Rattle.std.specs.List.{All}
use Rattle.exact_num.specs.Fraction.{Fraction, IsDefined}
use Rattle.exact_num.specs.CommonDenominator.{common_denominator, amount_over, IsRatio}
use Rattle.simplex_run.specs.Optimum.{IsOptimum}
use Rattle.form.specs.declared.orders.Order.{Order}
use Rattle.form.specs.Vector.{scale_of}
use Rattle.clearing_model.specs.Clearing.{signed_net, IsGreatest}
use Rattle.clearing_model.specs.Certificate.{signed_over, LineCloses, IsPremiumLessLiability, FillsCover, AreFractionFills, IsFractionMeasure, MeasureProves}
use Rattle.master_program.specs.Master.{plain_master}
use Rattle.master_program.specs.Reading.{Reading}

-- the liability L is what the fills owe at the first state and the slack
abbrev pub IsLiability : List ℕ → List Order → List Fraction → Fraction → Fraction → Type 0
IsLiability first orders fills slack L =
    let D = common_denominator (L ∷ fills) in
    IsRatio slack (amount_over D L -ℤ signed_net (signed_over D orders fills) first) D

-- an optimum of the master program in parts: fills and slack, the dual values of quantities and of
-- states, the reduced costs of fills and of the slack; and the liability that is read off
pub record IsSolved (first : List ℕ) (orders : List Order) (states : List (List ℕ)) (fills : List Fraction) (slack liability surplus : Fraction) (duals weights reduced : List Fraction) (first_weight : Fraction) : Type 0 where
  pub optimum : IsOptimum (plain_master first orders states) (fills ++ (slack ∷ [])) (duals ++ weights) (reduced ++ (first_weight ∷ [])) surplus
  pub fills_count : length fills ≡ length orders
  pub duals_count : length duals ≡ length orders
  pub weights_count : length weights ≡ length states
  pub reduced_count : length reduced ≡ length orders
  pub liability_defined : IsDefined liability
  pub liability_is : IsLiability first orders fills slack liability

-- the liability is enough at a state
abbrev pub IsEnoughAt : List Order → List Fraction → Fraction → List ℕ → Type 0
IsEnoughAt orders fills L z =
    let D = common_denominator (L ∷ fills) in
    signed_net (signed_over D orders fills) z ≤ℤ (amount_over D L *ℤ pos (scale_of z))

-- the fills are allowed and earn the surplus, which is not below 0; the liability is enough at each
-- of the states; the weights are a measure; and where the fills cover the surplus, the measure
-- proves it
pub record IsCertifiedAt (n : ℕ) (orders : List Order) (states : List (List ℕ)) (r : Reading) : Type 0 where
  pub fills : AreFractionFills orders r.fills
  pub liability_defined : IsDefined r.liability
  pub surplus_defined : IsDefined r.surplus
  pub earned : IsPremiumLessLiability orders r.fills r.liability r.surplus
  pub not_below_zero : pos 0 ≤ℤ r.surplus.numerator
  pub enough : All (IsEnoughAt orders r.fills r.liability) states
  pub measure : IsFractionMeasure n r.measure
  pub proves : FillsCover n orders r.fills r.surplus → MeasureProves orders r.measure r.surplus

-- fills that cover the surplus, a measure that proves it, and so the greatest surplus
pub record IsGreatestByMeasure (n : ℕ) (orders : List Order) (r : Reading) : Type 0 where
  pub covers : FillsCover n orders r.fills r.surplus
  pub not_below_zero : pos 0 ≤ℤ r.surplus.numerator
  pub measure : IsFractionMeasure n r.measure
  pub proves : MeasureProves orders r.measure r.surplus
  pub greatest : IsGreatest n orders r.surplus

-- the same on one underlying, where the cover is the line
pub record IsGreatestByLine (orders : List Order) (r : Reading) : Type 0 where
  pub fills : AreFractionFills orders r.fills
  pub liability_defined : IsDefined r.liability
  pub earned : IsPremiumLessLiability orders r.fills r.liability r.surplus
  pub closes : LineCloses orders r.fills r.liability
  pub by_measure : IsGreatestByMeasure 1 orders r
