-- The legs of the code as those of the walk, where `value` tells the fraction that a fill stands
-- for.
use Rattle.std.specs.Prelude.{ℕ, ◌≡◌, ◌<◌, List, [], ◌∷◌, length, map, drop}
use Rattle.exact_num.specs.Fraction.{Fraction}
use Rattle.form.specs.declared.orders.Order.{Order}
use Rattle.form.specs.Payoff.{option_of, legs_in}
use Rattle.clearing_model.specs.Legs.{Exposure as ModelExposure, Long as ModelLong, Short as ModelShort}
use Rattle.sign_tree.specs.declared.legs.Exposure.{Exposure}
use Rattle.sign_tree.specs.declared.legs.Exposure.TheVariants.{Long, Short}
use Rattle.sign_tree.specs.declared.legs.BatchLeg.{BatchLeg}
use Rattle.sign_tree.specs.declared.legs.LegsLeft.{LegsLeft}
use Rattle.sign_tree.specs.Legs.{FractionLeg, fraction_legs}

abbrev pub exposure_as : Exposure → ModelExposure
exposure_as Long = ModelLong
exposure_as Short = ModelShort

abbrev pub leg_as : {A : Type 0} → (A → Fraction) → BatchLeg A → FractionLeg
leg_as value leg = record { exposure = exposure_as leg.exposure; fill = value leg.fill; size = leg.size; option = option_of leg.form.now }

-- the legs of orders with these fills
abbrev pub batch_legs : {A : Type 0} → (A → Fraction) → List Order → List A → List FractionLeg
batch_legs value orders fills = fraction_legs orders (map value fills)

-- the legs that are still to come
abbrev pub legs_left : {A : Type 0} → (A → Fraction) → LegsLeft A → List FractionLeg
legs_left value left = drop left.next (batch_legs value left.orders.now left.fills.now)

-- the index of a leg of the first order, and 0 where there is none
abbrev pub IsOfFirst : List Order → ℕ → Type 0
IsOfFirst [] next = next ≡ 0
IsOfFirst (order ∷ orders) next = next < length (legs_in order.bundle)

pub record IsAtLeg {A : Type 0} (left : LegsLeft A) : Type 0 where
  pub fills : length left.fills.now ≡ length left.orders.now
  pub next : IsOfFirst left.orders.now left.next
