-- What fills that cover a surplus and a measure say together of the greatest surplus.
use Rattle.std.specs.Prelude.{ℕ, List}
use Rattle.exact_num.specs.Fraction.{Fraction, IsDefined, IsSameValue, AtMost}
use Rattle.form.specs.declared.orders.Order.{Order}
use Rattle.clearing_model.specs.Clearing.{IsGreatest}
use Rattle.clearing_model.specs.Certificate.{FillsCover, Point, IsFractionMeasure, MeasureProves}

-- no fractional fills of the orders cover a surplus above B
abbrev pub NoCoverIsAbove : ℕ → List Order → Fraction → Type 0
NoCoverIsAbove n orders B =
    (fills : List Fraction) (S : Fraction) → IsDefined S → FillsCover n orders fills S → AtMost S B

-- the greatest surplus is from S to B: no fills cover more than B, so S is at most B, and the
-- greatest where it is B
pub record BoundTheGreatest (n : ℕ) (orders : List Order) (S B : Fraction) : Type 0 where
  pub none_above : NoCoverIsAbove n orders B
  pub at_most : AtMost S B
  pub between : (G : Fraction) → IsGreatest n orders G → AtMost S G × AtMost G B
  pub equal : IsSameValue S B → IsGreatest n orders S

-- a surplus that fills cover and the bound of a measure do so
abbrev pub CoverAndMeasureBound : Type 0
CoverAndMeasureBound =
    (n : ℕ) (orders : List Order) (fills : List Fraction) (S B : Fraction) (points : List Point)
    → IsDefined S → IsDefined B → FillsCover n orders fills S
    → IsFractionMeasure n points → MeasureProves orders points B
    → BoundTheGreatest n orders S B
