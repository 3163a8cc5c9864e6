-- The legs of a batch, as the walk takes them.
use Rattle.std.specs.Prelude.{ℕ, List, map, nat_abs, ℤ, pos, Result}
use Rattle.std.specs.List.{flat_map, sum_by, zip}
use Rattle.exact_num.specs.declared.misfit.Wide.{Wide}
use Rattle.exact_num.specs.Fraction.{Fraction, whole}
use Rattle.exact_num.specs.Fits.{mul_of}
use Rattle.form.specs.declared.orders.Side.{Side}
use Rattle.form.specs.declared.orders.Order.{Order}
use Rattle.form.specs.Payoff.{BundleLeg, bundle_of}
use Rattle.clearing_model.specs.Legs.{Exposure, exposure_of}

-- a leg of a batch: long or short, how much of its order is filled, the size of its count, and its
-- option
pub record FractionLeg : Type 0 where
  pub exposure : Exposure
  pub fill : Fraction
  pub size : ℕ
  pub option : List ℤ

abbrev pub fraction_leg : Side → Fraction → BundleLeg → FractionLeg
fraction_leg side fill leg = record { exposure = exposure_of side leg.count; fill = fill; size = nat_abs leg.count; option = leg.option }

abbrev pub legs_filled : Side → Fraction → List BundleLeg → List FractionLeg
legs_filled side fill bundle = map (fraction_leg side fill) bundle

abbrev pub legs_of_order : Order × Fraction → List FractionLeg
legs_of_order filled = legs_filled filled.0.side filled.1 (bundle_of filled.0)

-- the legs of the orders with these fills, order by order and leg by leg
abbrev pub fraction_legs : List Order → List Fraction → List FractionLeg
fraction_legs orders fills = flat_map legs_of_order (zip orders fills)

-- how many legs the orders have
abbrev pub leg_count : List Order → ℕ
leg_count orders = sum_by (λ (order : Order). order.bundle.size) orders

-- the fill of a leg: that of its order times the size of its count
abbrev pub leg_fill : ℕ → FractionLeg → Result Fraction Wide
leg_fill limit leg = mul_of limit leg.fill (whole (pos leg.size))
