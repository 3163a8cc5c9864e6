-- What a certificate of fractions says of a batch.
use Rattle.std.specs.Prelude.{ℕ, ◌*◌, ◌≡◌, List, ◌∷◌, ◌++◌, map, length, replicate, pos, ◌-ℤ◌, ◌≤ℤ◌}
use Rattle.std.specs.List.{zip, All}
use Rattle.form.specs.Fraction.{Fraction, IsDefined}
use Rattle.form.specs.CommonDenominator.{common_denominator, amount_over, amounts_over, amounts_of, signed_amounts_over, IsRatio}
use Rattle.form.specs.declared.orders.Order.{Order}
use Rattle.form.specs.Payoff.{IsState}
use Rattle.clearing_model.specs.Clearing.{Filled, SignedFill, signed_premium, Covers}
use Rattle.clearing_model.specs.Legs.{legs_of}
use Rattle.clearing_model.specs.Tree.{IsClosed, Unsigned}
use Rattle.clearing_model.specs.Line.{IsLineCover}
use Rattle.clearing_model.specs.Measure.{WeightedState, mass_of, Proves}
use Rattle.clearing_model.specs.Written.{WrittenNode, PlacedMultiplier, WrittenTree, multipliers_of, tree_over, IsWritten, IsFormed}

-- a fill from 0 to the order's quantity
abbrev pub IsFill : Order × Fraction → Type 0
IsFill p = IsDefined p.1 × (pos 0 ≤ℤ p.1.numerator) × (p.1.numerator ≤ℤ pos (p.0.quantity * p.1.denominator))

-- one such fill for each order
abbrev pub AreFractionFills : List Order → List Fraction → Type 0
AreFractionFills orders fills = (length fills ≡ length orders) × All IsFill (zip orders fills)

-- they are fills of the orders, and cover the surplus S
pub record FillsCover (n : ℕ) (orders : List Order) (fills : List Fraction) (S : Fraction) : Type 0 where
  pub are_fills : AreFractionFills orders fills
  pub covers : Covers n (zip orders (amounts_of fills)) (common_denominator fills) S

-- orders, each with its amount over D; and the same where amounts may be below 0
abbrev pub filled_over : ℕ → List Order → List Fraction → List Filled
filled_over D orders fills = zip orders (amounts_over D fills)

abbrev pub signed_over : ℕ → List Order → List Fraction → List SignedFill
signed_over D orders fills = zip orders (signed_amounts_over D fills)

-- S is the premium of the fills less L
abbrev pub IsPremiumLessLiability : List Order → List Fraction → Fraction → Fraction → Type 0
IsPremiumLessLiability orders fills L S =
    let D = common_denominator (L ∷ fills) in
    IsRatio S (signed_premium (signed_over D orders fills) -ℤ amount_over D L) D

-- the line is covered
abbrev pub LineCloses : List Order → List Fraction → Fraction → Type 0
LineCloses orders fills L =
    let D = common_denominator (L ∷ fills) in
    IsLineCover (signed_over D orders fills) (amount_over D L)

abbrev pub by_of : PlacedMultiplier → Fraction
by_of m = m.by

abbrev pub fractions_of : WrittenTree → List Fraction
fractions_of tree = map by_of (multipliers_of tree)

-- the tree closes over these fractions
abbrev pub TreeCloses : ℕ → List Order → List Fraction → Fraction → WrittenTree → Type 0
TreeCloses n orders fills L tree =
    let D = common_denominator (L ∷ (fills ++ fractions_of tree)) in
    let legs = legs_of (filled_over D orders fills) in
    IsClosed n legs (amount_over D L) (tree_over D legs tree)

-- the nodes and multipliers are those of a tree that is well formed and closes
pub record ClosesAsWritten (n : ℕ) (orders : List Order) (fills : List Fraction) (L : Fraction) (nodes : List WrittenNode) (ms : List PlacedMultiplier) : Type 0 where
  pub tree : WrittenTree
  pub written : IsWritten tree nodes ms
  pub formed : (let legs = legs_of (zip orders (amounts_of fills)) in IsFormed legs (replicate (length legs) Unsigned) tree)
  pub closes : TreeCloses n orders fills L tree

-- a state and its weight, a fraction
abbrev pub Point : Type 0
Point = List ℕ × Fraction

abbrev pub fraction_weight : Point → Fraction
fraction_weight point = point.1

-- the states with their weights over W
abbrev pub points_over : ℕ → List Point → List WeightedState
points_over W points = map (λ (point : Point). (point.0, amount_over W point.1)) points

-- a weight that is not below 0
abbrev pub IsWeight : Point → Type 0
IsWeight point = IsDefined point.1 × (pos 0 ≤ℤ point.1.numerator)

-- no weight is below 0, and the sum of weight times t is 1
pub record HasUnitMass (points : List Point) : Type 0 where
  pub weights : All IsWeight points
  pub mass : (let W = common_denominator (map fraction_weight points) in mass_of (points_over W points) ≡ pos W)

-- such weights of states of n underlyings are a measure
pub record IsFractionMeasure (n : ℕ) (points : List Point) : Type 0 where
  pub states : All (λ (point : Point). IsState n point.0) points
  pub unit : HasUnitMass points

-- the measure's bound is S
abbrev pub MeasureProves : List Order → List Point → Fraction → Type 0
MeasureProves orders points S =
    let W = common_denominator (map fraction_weight points) in
    Proves orders (points_over W points) W S
