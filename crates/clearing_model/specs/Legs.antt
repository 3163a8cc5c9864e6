-- The legs of fills: each option that the market owes or is owed, and how much of it.
use Rattle.std.specs.Prelude.{ℕ, suc, zero, ◌*◌, List, map, nat_abs, ℤ, pos, negsuc}
use Rattle.std.specs.List.{flat_map}
use Rattle.form.specs.declared.orders.Side.{Side}
use Rattle.form.specs.declared.orders.Side.TheVariants.{Buy, Sell}
use Rattle.form.specs.Payoff.{bundle_of, BundleLeg}
use Rattle.clearing_model.specs.Clearing.{Filled}

-- whether the market owes what the option pays, or is owed it
pub data Exposure : Type 0 where
  Long : Exposure
  Short : Exposure

pub record FilledLeg : Type 0 where
  pub exposure : Exposure
  pub amount : ℕ
  pub option : List ℤ

-- a leg is long where its order buys and its count is above 0, or its order sells and its count is
-- below 0
abbrev pub exposure_of : Side → ℤ → Exposure
exposure_of Buy (pos zero) = Short
exposure_of Buy (pos (suc n)) = Long
exposure_of Buy (negsuc n) = Short
exposure_of Sell (pos n) = Short
exposure_of Sell (negsuc n) = Long

-- its amount is that of its order times the size of its count
abbrev pub filled_leg : Side → ℕ → BundleLeg → FilledLeg
filled_leg side amount leg = record { exposure = exposure_of side leg.count; amount = amount * nat_abs leg.count; option = leg.option }

abbrev pub legs_of_fill : Filled → List FilledLeg
legs_of_fill fill = map (filled_leg fill.0.side fill.1) (bundle_of fill.0)

-- the legs of the fills, order by order and leg by leg
abbrev pub legs_of : List Filled → List FilledLeg
legs_of fills = flat_map legs_of_fill fills
