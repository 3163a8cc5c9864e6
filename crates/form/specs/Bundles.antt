-- Bundles of the code.
use Rattle.std.specs.Prelude.{ℕ, ◌≡◌, List, [], ◌∷◌, Bool, nat_eq, map, take, ℤ, unsigned_abs}
use Rattle.std.specs.List.{All, list_all, sum}
use Rattle.form.specs.declared.legs.Leg.{Leg}
use Rattle.form.specs.declared.bundles.Bundle.{Bundle}
use Rattle.form.specs.Vector.{BundleLeg}
pub use Rattle.form.specs.Legs.{leg_of, count_of_forms, IsCounted, AreAlike, AreLegs, IsFiller}

-- the legs that count
abbrev pub legs_in : Bundle → List Leg
legs_in bundle = take bundle.size bundle.legs

-- the bundle of the model
abbrev pub bundle_legs : Bundle → List BundleLeg
bundle_legs bundle = map leg_of (legs_in bundle)

-- how many options one bundle counts: the sum of the sizes of the counts
abbrev pub count_sizes : Bundle → ℕ
count_sizes bundle = sum (map (λ (leg : Leg). unsigned_abs leg.count) (legs_in bundle))

-- each leg's form has this count of entries
abbrev pub IsOnCount : ℕ → Bundle → Type 0
IsOnCount count bundle = All (λ (leg : Leg). leg.form.count ≡ count) (legs_in bundle)

abbrev pub is_on_count : ℕ → Bundle → Bool
is_on_count count bundle = list_all (λ (leg : Leg). nat_eq leg.form.count count) (legs_in bundle)

-- the option of the first leg
abbrev pub option_first : List BundleLeg → List ℤ
option_first [] = []
option_first (leg ∷ legs) = leg.option

abbrev pub first_option : Bundle → List ℤ
first_option bundle = option_first (bundle_legs bundle)

-- equal lists of legs are equal bundles
abbrev pub BundlesAreLegs : Type 0
BundlesAreLegs = (a b : Bundle) → bundle_legs a ≡ bundle_legs b → (a.size ≡ b.size) × (a.legs ≡ b.legs)
