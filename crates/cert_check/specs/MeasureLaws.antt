-- What the checks of a measure show.
use Rattle.std.specs.Prelude.{ℕ, ◌≡◌, List, map, true, false, Ok}
use Rattle.std.specs.List.{All}
use Rattle.exact_num.specs.Fraction.{Fraction, IsLowest, IsSameValue}
use Rattle.exact_num.specs.CommonDenominator.{common_denominator, IsRatio}
use Rattle.frac.specs.declared.frac128.Frac128.{Frac128}
use Rattle.frac.specs.Value.{fraction_of}
use Rattle.form.specs.declared.orders.Order.{Order}
use Rattle.form.specs.declared.orders.Batch.{Batch}
use Rattle.form.specs.Payoff.{BundleLeg}
use Rattle.clearing_model.specs.Measure.{price_of as model_price}
use Rattle.clearing_model.specs.Certificate.{Point, fraction_weight, points_over, HasUnitMass, IsFractionMeasure, MeasureProves}
use Rattle.market_laws.specs.Bounds.{NoCoverIsAbove}
use Rattle.cert_check.specs.declared.measures.Measure.{Measure}
use Rattle.cert_check.specs.Points.{points_of}
use Rattle.cert_check.specs.MeasureSums.{has_unit_mass, price_of, bound_of}

-- the points give the bundle this price
abbrev pub IsPrice : List BundleLeg → List Point → Fraction → Type 0
IsPrice bundle points price =
    let W = common_denominator (map fraction_weight points) in
    IsRatio price (model_price bundle (points_over W points)) W

-- the measure's bound of the batch is this number
abbrev pub IsBoundOf : Batch → Measure → Frac128 → Type 0
IsBoundOf batch measure bound = MeasureProves batch.orders (points_of measure) (fraction_of bound)

-- where the points are a measure of the batch's underlyings, no fills of the batch cover a surplus
-- above it
abbrev pub IsAboveCovers : Batch → Measure → Frac128 → Type 0
IsAboveCovers batch measure bound =
    IsFractionMeasure batch.underlyings (points_of measure)
    → NoCoverIsAbove batch.underlyings batch.orders (fraction_of bound)

-- points that pass have unit mass, and points that do not pass have not
abbrev pub MassesAreExact : Type 0
MassesAreExact =
    (limit : ℕ) (points : List Point) → All IsLowest (map fraction_weight points)
    → (has_unit_mass limit points ≡ Ok true → HasUnitMass points)
    × (has_unit_mass limit points ≡ Ok false → ¬ (HasUnitMass points))

-- a price is the model's; a weight may be below 0
abbrev pub PricesAreExact : Type 0
PricesAreExact =
    (limit : ℕ) (bundle : List BundleLeg) (points : List Point) (price : Fraction) → All IsLowest (map fraction_weight points)
    → price_of limit bundle points ≡ Ok price → IsPrice bundle points price

-- a bound is what the measure proves, and nothing else is; a weight may be below 0
abbrev pub BoundsAreExact : Type 0
BoundsAreExact =
    (limit : ℕ) (orders : List Order) (points : List Point) (bound : Fraction) → All IsLowest (map fraction_weight points)
    → bound_of limit orders points ≡ Ok bound
    → MeasureProves orders points bound
    × ((S : Fraction) → MeasureProves orders points S → IsSameValue S bound)

-- the bound of a measure is at least each surplus that fills cover
abbrev pub NoCoverIsAboveTheBound : Type 0
NoCoverIsAboveTheBound =
    (limit n : ℕ) (orders : List Order) (points : List Point) (bound : Fraction) → All IsLowest (map fraction_weight points)
    → IsFractionMeasure n points → bound_of limit orders points ≡ Ok bound
    → NoCoverIsAbove n orders bound
