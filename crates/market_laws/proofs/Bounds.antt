-- A cover and a measure bound the greatest surplus from both sides.
use Rattle.std.proofs.Common.{◌≡◌, ℕ, ◌≤◌, List, map, zip, arith, ℤ, pos, ◌*ℤ◌, ◌≤ℤ◌, ap}
use Rattle.std.proofs.lemmas.Int.{ints}
use Rattle.arithmetic.proofs.Integers.{*ℤ_cancel_le, *ℤ_mono}
use Rattle.arithmetic.proofs.Products.{products}
use Rattle.exact_num.specs.Fraction.{Fraction, IsDefined, AtMost}
use Rattle.exact_num.specs.CommonDenominator.{common_denominator, amounts_of}
use Rattle.form.specs.declared.orders.Order.{Order}
use Rattle.clearing_model.specs.Clearing.{AreFills, Covers}
use Rattle.clearing_model.specs.Measure.{bound_of}
use Rattle.clearing_model.specs.Certificate.{Point, fraction_weight, points_over, IsFractionMeasure, MeasureProves}
use Rattle.market_laws.specs.Bounds.{NoCoverIsAbove, CoverAndMeasureBound}
use Rattle.market_laws.proofs.Certificate.{are_fills, is_measure}
use Rattle.market_laws.proofs.Duality.{duality}

-- u W <= x d and v W = x e give u e <= v d
over_common : (u v x : ℤ) (d e W : ℕ) → 1 ≤ W → (u *ℤ pos W) ≤ℤ (x *ℤ pos d) → v *ℤ pos W ≡ x *ℤ pos e → (u *ℤ pos e) ≤ℤ (v *ℤ pos d)
over_common u v x d e W one at_most is =
    *ℤ_cancel_le W (u *ℤ pos e) (v *ℤ pos d) one (omega (arith, ints, products, *ℤ_mono e (u *ℤ pos W) (x *ℤ pos d) at_most, ap (λ (y : ℤ). y *ℤ pos d) is))

-- no fills g / F cover a surplus above the bound of a measure
at_most_bound : (n : ℕ) (orders : List Order) (points : List Point) (B : Fraction) → IsFractionMeasure n points → MeasureProves orders points B
    → (g : List ℕ) (F : ℕ) (R : Fraction) → IsDefined R → AreFills orders g F → Covers n (zip orders g) F R → AtMost R B
at_most_bound n orders points B measure proves g F R defined fills covers =
    let W = common_denominator (map fraction_weight points) in
    let weighted = points_over W points in
    let is = is_measure n points measure in
    over_common R.numerator B.numerator (pos (bound_of orders weighted W)) R.denominator B.denominator W is.0 (duality n orders weighted W is g F fills R defined covers) proves

pub no_cover_is_above : (n : ℕ) (orders : List Order) (points : List Point) (B : Fraction) → IsFractionMeasure n points → MeasureProves orders points B → NoCoverIsAbove n orders B
no_cover_is_above n orders points B measure proves fills R defined cover =
    at_most_bound n orders points B measure proves (amounts_of fills) (common_denominator fills) R defined (are_fills orders fills cover.are_fills) cover.covers

pub cover_and_measure_bound : CoverAndMeasureBound
cover_and_measure_bound n orders fills S B points S_defined B_defined cover measure proves =
    let g = amounts_of fills in
    let F = common_denominator fills in
    let are = are_fills orders fills cover.are_fills in
    let none = at_most_bound n orders points B measure proves in
    record {
      none_above = no_cover_is_above n orders points B measure proves;
      at_most = none g F S S_defined are cover.covers;
      between = λ G greatest. (
        greatest.2 g F S S_defined are cover.covers,
        none greatest.1.0 greatest.1.1 G greatest.0 greatest.1.2 greatest.1.3,
      );
      equal = λ same. (
        S_defined,
        (g, F, are, cover.covers),
        λ h H R defined fills covers.
            over_common R.numerator S.numerator B.numerator R.denominator S.denominator B.denominator B_defined (none h H R defined fills covers) same,
      );
    }
