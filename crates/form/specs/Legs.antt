-- Legs of the code. This file names no bundle, so that the ghost fields of bundles may cite it.
use Rattle.std.specs.Prelude.{ℕ, ◌≡◌, ◌≢◌, ◌≤◌, List, [], ◌∷◌, length, replicate, pos, unsigned_abs}
use Rattle.std.specs.List.{All}
use Rattle.form.specs.declared.legs.Leg.{Leg}
use Rattle.form.specs.declared.limits.TheConstants.{MAX_COUNT, MAX_LEGS}
use Rattle.form.specs.Vector.{BundleLeg}
use Rattle.form.specs.Options.{option_of}

-- the leg of the model: the option and its count
abbrev pub leg_of : Leg → BundleLeg
leg_of leg = record { count = leg.count; option = option_of leg.form }

-- a count that a leg may have
abbrev pub IsCounted : Leg → Type 0
IsCounted leg = (leg.count ≢ pos 0) × (unsigned_abs leg.count ≤ MAX_COUNT)

-- how many entries the form of the first leg has
abbrev pub count_of_forms : List Leg → ℕ
count_of_forms [] = 0
count_of_forms (leg ∷ legs) = leg.form.count

-- all forms have as many, so that the legs are on the same underlyings
abbrev pub AreAlike : List Leg → Type 0
AreAlike legs = All (λ (leg : Leg). leg.form.count ≡ count_of_forms legs) legs

-- the legs of a bundle: one to four
pub record AreLegs (legs : List Leg) : Type 0 where
  pub some : 1 ≤ length legs
  pub few : length legs ≤ MAX_LEGS
  pub counted : All IsCounted legs

-- what stands past the last leg: nothing counts, and there is no option
abbrev pub IsFiller : Leg → Type 0
IsFiller leg = (leg.count ≡ pos 0) × (leg.form.count ≡ 2) × (leg.form.entries ≡ replicate 9 (pos 0))
